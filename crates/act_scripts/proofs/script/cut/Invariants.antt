use Rattle.act_scripts.proofs.Common.{◌≡◌, ◌∷◌, [], ◌++◌, ◌≤◌, map, take, drop, true, list_all, is_plain_byte, words_in}
use Rattle.act_scripts.proofs.script.cut.Given as goal

-- the bytes so far are plain, and their last word is not yet pushed
abbrev pub invariant-loop-at : goal.invariant-loop-at
invariant-loop-at l = record {
  within : l.word ≤ l.at;
  plain : list_all is_plain_byte (take l.at l.bytes) ≡ true;
  words : words_in (take l.at l.bytes) ≡ map (λ w. w.now) l.words.items ++ drop l.word (take l.at l.bytes) ∷ [];
}
