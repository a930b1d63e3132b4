use Rattle.act_scripts.proofs.Common.{◌≡◌, ℕ, ◌+◌, ◌<◌, List, [], ◌∷◌, ◌++◌, length, take, drop, map, sym, ap, ◌∙◌, arith, take_all, nat_tests}
use Rattle.act_scripts.proofs.Cutting.{word_plain, seen_word, line_ends, line_fails, plain_more, word_ends, word_goes_on, too_long, lines_last}
use Rattle.act_scripts.proofs.script.cut.Goals.{then-byte-le32+else-byte-eq10+else-byte-ne32+in_ok-push_word-2, else-byte-le32+else-byte-gt126}
use Rattle.act_scripts.proofs.script.cut.Goals as goal

pub push_word-requires : goal.push_word-requires
push_word-requires c = word_plain c.args.bytes.now c.loop-at.invariant.within c.loop-at.invariant.plain

pub push_word-requires-then-byte-le32 : goal.push_word-requires-then-byte-le32
push_word-requires-then-byte-le32 c = word_plain c.args.bytes.now c.loop-at.invariant.within c.loop-at.invariant.plain

pub returns-then-byte-eq10-clause-words : goal.returns-then-byte-eq10-clause-words
returns-then-byte-eq10-clause-words c =
    c.in_ok-push_word.ensures ∙ ap (λ l. map (λ w. w.now) c.loop-at.words.items ++ l ∷ []) (sym (seen_word c.args.bytes.now c.loop-at.invariant.within)) ∙
    sym c.loop-at.invariant.words

pub returns-then-byte-eq10-clause-more : goal.returns-then-byte-eq10-clause-more
returns-then-byte-eq10-clause-more c = λ lt. line_ends c.args.bytes.now c.loop-at.at lt c.loop-at.invariant.plain c.if-byte-eq10.true

pub returns-then-byte-ne32-clause-fault : goal.returns-then-byte-ne32-clause-fault
returns-then-byte-ne32-clause-fault c = line_fails c.args.bytes.now c.loop-at.at (omega (arith, c.loop-at-test.true)) c.loop-at.invariant.plain
    (grind (arith, nat_tests, c.if-byte-le32.true, c.if-byte-ne32.true)) (grind (arith, nat_tests, c.if-byte-eq10.false))

pub returns-then-byte-gt126-clause-fault : goal.returns-then-byte-gt126-clause-fault
returns-then-byte-gt126-clause-fault c = line_fails c.args.bytes.now c.loop-at.at (omega (arith, c.loop-at-test.true)) c.loop-at.invariant.plain
    (grind (arith, nat_tests, c.if-byte-gt126.true)) (grind (arith, nat_tests, c.if-byte-gt126.true))

pub loop-at-preserved : goal.loop-at-preserved
loop-at-preserved c =
    let bytes = c.args.bytes.now in let before = c.loop-at.invariant in let pushed : List (List ℕ) = map (λ w. w.now) c.loop-at.words.items in
    let lt : c.loop-at.at < length bytes = omega (arith, c.loop-at-test.true) in
    elim c.if-byte-le32.branch [
      | then-byte-le32+else-byte-eq10+else-byte-ne32+in_ok-push_word-2 w ↦
          rw (w.words-is, w.word-is) (record {
            within = omega arith;
            plain = plain_more bytes c.loop-at.at lt before.plain (grind (arith, nat_tests, w.if-byte-ne32.false));
            words = word_ends bytes c.loop-at.at lt before.plain pushed (drop c.loop-at.word (take c.loop-at.at bytes))
                (grind (arith, w.if-byte-ne32.false)) before.words ∙ ap (λ l. l ++ drop (c.loop-at.at + 1) (take (c.loop-at.at + 1) bytes) ∷ [])
                (ap (λ l. pushed ++ l ∷ []) (seen_word bytes before.within) ∙ sym w.in_ok-push_word-2.ensures);
          })
      | else-byte-le32+else-byte-gt126 w ↦
          rw (w.words-is, w.word-is) (record {
            within = omega (arith, before.within);
            plain = plain_more bytes c.loop-at.at lt before.plain (grind (arith, nat_tests, w.if-byte-le32.false, w.if-byte-gt126.false));
            words = word_goes_on bytes c.loop-at.at lt before.plain pushed before.within (grind (arith, nat_tests, w.if-byte-le32.false)) before.words;
          })
    ]

pub returns-then-bytes-gt-MAX_LINE_BYTES-clause-fault : goal.returns-then-bytes-gt-MAX_LINE_BYTES-clause-fault
returns-then-bytes-gt-MAX_LINE_BYTES-clause-fault c = too_long c.args.bytes.now c.loop-at.at (omega arith) (omega arith) c.loop-at.invariant.plain

pub push_word-requires-2 : goal.push_word-requires-2
push_word-requires-2 c =
    let all : c.loop-at.at ≡ length c.args.bytes.now = omega arith in
    word_plain c.args.bytes.now {word = c.loop-at.word} {at = length c.args.bytes.now} (omega (arith, c.loop-at.invariant.within))
    (rw all at c.loop-at.invariant.plain)

pub returns-clause-last : goal.returns-clause-last
returns-clause-last c = λ same.
    let bytes = c.args.bytes.now in let all : c.loop-at.at ≡ length bytes = omega arith in
    let whole : take (length bytes) bytes ≡ bytes = take_all (length bytes) bytes (omega arith) in
    rw whole (rw whole at (lines_last (take (length bytes) bytes) (rw all at c.loop-at.invariant.plain)))
