-- What the indexes of held calls tell, and how they change.
use Rattle.act_inbox.proofs.Common.{◌≡◌, ◌≢◌, ℕ, ◌<◌, List, [], length, Option, Some, None, Bool, true, false, ◌==◌, ◌&&◌, if◌then◌else◌, refl, sym, ◌∙◌, ap}
use Rattle.act_inbox.proofs.Common.{subst, arith, get_or, set, slice_get, inl, inr, find, IsSomeAnd, All, option_and_then, eqb_tells, nat_tests, cases_eq}
use Rattle.act_inbox.proofs.Common.{slice_get-get_or, slice_get_within, get_or_from_slice_get, Slab, get, values, Updates, Packet, key_of, IsHeld, is_packet_of}
use Rattle.act_inbox.proofs.Common.{key_in}
use Rattle.act_inbox.proofs.Packets.{both_equal, is_call_tells}
use Rattle.act_inbox.proofs.Slots.{find-slot, find-no_slot, All-filled, slot-All}
use Rattle.act_rules.proofs.Common.{get_set-other, get_set-same}

-- what a caller's index tells
pub key_at : (keys : List (List ℕ)) {place : ℕ} {index : List ℕ} → place < length keys → index ≡ get_or keys place index → {caller : ℕ} (number : ℕ) →
    place ≡ caller → key_of keys caller number ≡ key_in index number
key_at keys {place} {index} within reached {caller} number same =
    let here : slice_get keys caller ≡ Some index = ap (slice_get keys) (sym same) ∙ slice_get-get_or keys place index within ∙ ap Some (sym reached) in
    rw here refl

-- the caller and the number are those
abbrev pub is_same : ℕ → ℕ → ℕ → ℕ → Bool
is_same place number caller count = (place == caller) && (number == count)

-- a caller's index after a change at one number
module _ (keys : List (List ℕ)) (place : ℕ) (old new : List ℕ) (within : place < length keys) (reached : old ≡ get_or keys place old) where
  -- only the key of the caller's call of that number changes
  pub key_of-set : (number : ℕ) (slot : Option ℕ) → ((count : ℕ) → key_in new count ≡ (if number == count then slot else key_in old count)) →
      (caller count : ℕ) → key_of (set keys place new) caller count ≡ (if is_same place number caller count then slot else key_of keys caller count)
  key_of-set number slot updates caller count = elim (eqb_tells place caller) [
    | inl t ↦
        let here : slice_get keys caller ≡ Some old = ap (slice_get keys) (sym t.1) ∙ slice_get-get_or keys place old within ∙ ap Some (sym reached) in
        let there : slice_get (set keys place new) caller ≡ Some new =
        ap (slice_get (set keys place new)) (sym t.1) ∙ get_set-same keys place new (slice_get-get_or keys place old within) in
        rw (t.0, here, there) (updates count)
    | inr f ↦
        let same : slice_get (set keys place new) caller ≡ slice_get keys caller = get_set-other keys place caller new f.1 in
        rw (f.0, same) refl
  ]

  -- the same entries
  pub key_of-kept : new ≡ old → (caller count : ℕ) → key_of (set keys place new) caller count ≡ key_of keys caller count
  key_of-kept unchanged caller count = elim (eqb_tells place caller) [
    | inl t ↦
        let here : slice_get keys caller ≡ Some old = ap (slice_get keys) (sym t.1) ∙ slice_get-get_or keys place old within ∙ ap Some (sym reached) in
        let there : slice_get (set keys place new) caller ≡ Some new =
        ap (slice_get (set keys place new)) (sym t.1) ∙ get_set-same keys place new (slice_get-get_or keys place old within) in
        rw (here, there) (ap (λ index. key_in index count) unchanged)
    | inr f ↦ ap (option_and_then (λ index. key_in index count)) (get_set-other keys place caller new f.1)
  ]

both_same : {a : ℕ} (b : ℕ) {c : ℕ} (d : ℕ) → a ≡ b → c ≡ d → ((a == b) && (c == d)) ≡ true
both_same b d e f = grind (arith, nat_tests)

pub is_same_itself : (caller number : ℕ) → is_same caller number caller number ≡ true
is_same_itself caller number = both_same {a = caller} caller {c = number} number refl refl

-- a packet of the caller and number is that call
pub is_call_from : {caller number : ℕ} (packet : Packet) → packet.caller ≡ caller → packet.number ≡ number → is_packet_of caller number packet ≡ true
is_call_from {caller} {number} packet of_caller numbered = both_same caller number of_caller numbered

-- what a key names
pub record Names (packets : Slab Packet) (caller number key : ℕ) : Type 0 where
  pub packet : Packet
  pub reached : get packets key ≡ Some packet
  pub of_caller : packet.caller ≡ caller
  pub numbered : packet.number ≡ number

names_by : (packets : Slab Packet) (caller number key : ℕ) (slot : Option Packet) → get packets key ≡ slot →
    IsSomeAnd slot (λ packet. (packet.caller ≡ caller) × (packet.number ≡ number)) → Names packets caller number key
names_by packets caller number key None at told = absurd told
names_by packets caller number key (Some packet) at told = record { packet = packet; reached = at; of_caller = told.0; numbered = told.1 }

-- where each key names its packet, and no other packet is held
module _ (packets : Slab Packet) (keys : List (List ℕ)) (held : IsHeld packets keys) (caller number : ℕ) where
  pub names : (key : ℕ) → key_of keys caller number ≡ Some key → Names packets caller number key
  names key at = names_by packets caller number key (get packets key) refl (held.named caller number key at)

  key_is : (key : ℕ) {packet : Packet} → get packets key ≡ Some packet → is_packet_of caller number packet ≡ true → key_of keys caller number ≡ Some key
  key_is key {packet} reached is = let told = is_call_tells caller number packet is in rw (told.0, told.1) at (held.indexed key packet reached)

  not_call : key_of keys caller number ≡ None → (key : ℕ) {packet : Packet} → get packets key ≡ Some packet → (b : Bool) →
      is_packet_of caller number packet ≡ b → b ≡ false
  not_call nowhere key {packet} reached true is = let at = key_is key reached is in absurd (cc)
  not_call nowhere key reached false is = refl

  -- a call without a key has no packet that is held
  pub none_held : key_of keys caller number ≡ None → find (is_packet_of caller number) (values packets) ≡ None
  none_held nowhere =
      find-no_slot (is_packet_of caller number) packets.slots (λ key packet reached. not_call nowhere key reached (is_packet_of caller number packet) refl)

  same_packet : (key : ℕ) {packet : Packet} → key_of keys caller number ≡ Some key → get packets key ≡ Some packet → (other : ℕ) (second : Packet) →
      get packets other ≡ Some second → is_packet_of caller number second ≡ true → second ≡ packet
  same_packet key at reached other second there is =
      let at_other = key_is other there is in let same : other ≡ key = cc in
      let here : get packets key ≡ Some second = ap (get packets) (sym same) ∙ there in cc

  pub one_held : {key : ℕ} {packet : Packet} → key_of keys caller number ≡ Some key → get packets key ≡ Some packet →
      find (is_packet_of caller number) (values packets) ≡ Some packet
  one_held {key} {packet} at reached =
      let named = names key at in let same : named.packet ≡ packet = let one = named.reached in cc in
      let is : is_packet_of caller number packet ≡ true =
      subst (λ p. is_packet_of caller number p ≡ true) same (is_call_from named.packet named.of_caller named.numbered) in
      find-slot (is_packet_of caller number) packets.slots key packet reached is (same_packet key at reached)

  finds_by : (key : Option ℕ) → key_of keys caller number ≡ key →
      find (is_packet_of caller number) (values packets) ≡ option_and_then (λ key. get packets key) key
  finds_by None at = none_held at
  finds_by (Some key) at = let named = names key at in one_held at named.reached ∙ sym named.reached

  -- the packet of a call is found by its key
  pub finds : find (is_packet_of caller number) (values packets) ≡ option_and_then (λ key. get packets key) (key_of keys caller number)
  finds = finds_by (key_of keys caller number) refl

  not_keyed_by : (key : Option ℕ) → key_of keys caller number ≡ key → find (is_packet_of caller number) (values packets) ≡ None → key ≡ None
  not_keyed_by None at none = refl
  not_keyed_by (Some key) at none = let named = names key at in let one = one_held at named.reached in absurd (cc)

  pub not_keyed : find (is_packet_of caller number) (values packets) ≡ None → key_of keys caller number ≡ None
  not_keyed none = not_keyed_by (key_of keys caller number) refl none

-- the same slots and the same keys
pub held_same : {packets : Slab Packet} (after : Slab Packet) {keys : List (List ℕ)} (keys_after : List (List ℕ)) → IsHeld packets keys →
    ((key : ℕ) → get after key ≡ get packets key) → length keys_after ≡ length keys →
    ((caller number : ℕ) → key_of keys_after caller number ≡ key_of keys caller number) → IsHeld after keys_after
held_same after keys_after held slots long same = record {
  one_each = long ∙ held.one_each;
  named = λ caller number key at. rw (slots key) (held.named caller number key (sym (same caller number) ∙ at));
  indexed = λ key packet reached. same packet.caller packet.number ∙ held.indexed key packet (sym (slots key) ∙ reached);
}

-- one slot changes
module _ (packets after : Slab Packet) (slot : ℕ) (content : Option Packet) (written : Updates packets after slot content) where
  elsewhere : (key : Option ℕ) → ((k : ℕ) → key ≡ Some k → k ≢ slot) → option_and_then (λ k. get after k) key ≡ option_and_then (λ k. get packets k) key
  elsewhere None differs = refl
  elsewhere (Some key) differs = written.others key (differs key refl)

  -- what holds of each packet, and of the one that is written, holds of each packet afterwards
  pub all_after : (P : Packet → Type 0) → ((packet : Packet) → content ≡ Some packet → P packet) → All P (values packets) → All P (values after)
  all_after P here all = All-filled P after.slots (λ key packet reached. elim (cases_eq key slot) [
    | inl same ↦ here packet (sym written.changed ∙ ap (get after) (sym same) ∙ reached)
    | inr differs ↦ slot-All P packets.slots all key packet (sym (written.others key differs) ∙ reached)
  ])

-- no calls
no_index : (keys : List (List ℕ)) → All (λ index. index ≡ []) keys → (caller number : ℕ) (index : Option (List ℕ)) → slice_get keys caller ≡ index →
    option_and_then (λ index. key_in index number) index ≡ None
no_index keys empty caller number None at = refl
no_index keys empty caller number (Some index) at =
    let none : index ≡ [] =
    subst (λ i. i ≡ []) (get_or_from_slice_get keys caller index index at) (empty caller index (slice_get_within keys caller index at)) in
    ap (λ index. key_in index number) none

no_slot : (packets : Slab Packet) → packets.slots ≡ [] → (key : ℕ) → get packets key ≡ None
no_slot packets empty key = rw empty refl

pub held_at_first : (packets : Slab Packet) (keys : List (List ℕ)) → packets.slots ≡ [] → length keys ≡ 17 → All (λ index. index ≡ []) keys →
    IsHeld packets keys
held_at_first packets keys no_packets one_each no_keys = record {
  one_each = one_each;
  named = λ caller number key at. let none = no_index keys no_keys caller number (slice_get keys caller) refl in absurd (cc);
  indexed = λ key packet reached. let none = no_slot packets no_packets key in absurd (cc);
}

-- a call comes, at a vacant key
module _ (packets after : Slab Packet) (keys keys_after : List (List ℕ)) (packet : Packet) (slot : ℕ) (held : IsHeld packets keys)
    (absent : key_of keys packet.caller packet.number ≡ None) (vacant : get packets slot ≡ None) (written : Updates packets after slot (Some packet))
    (long : length keys_after ≡ length keys)
    (keyed : (caller number : ℕ) → key_of keys_after caller number ≡ (if is_packet_of caller number packet then Some slot else key_of keys caller number)) where
  not_vacant : (caller number key : ℕ) → key_of keys caller number ≡ Some key → key ≢ slot
  not_vacant caller number key at same = let named = names packets keys held caller number key at in let one = named.reached in
      let none : get packets key ≡ None = ap (get packets) same ∙ vacant in absurd (cc)

  came_named : (caller number key : ℕ) (b : Bool) → is_packet_of caller number packet ≡ b → key_of keys_after caller number ≡ Some key →
      IsSomeAnd (get after key) (λ each. (each.caller ≡ caller) × (each.number ≡ number))
  came_named caller number key true is at =
      let there : key_of keys_after caller number ≡ Some slot = rw is at (keyed caller number) in
      let same : slot ≡ key = cc in rw (ap (get after) (sym same) ∙ written.changed) (is_call_tells caller number packet is)
  came_named caller number key false is at =
      let there : key_of keys caller number ≡ Some key = sym (rw is at (keyed caller number)) ∙ at in
      rw (written.others key (not_vacant caller number key there)) (held.named caller number key there)

  came_indexed : (key : ℕ) (each : Packet) (b : Bool) → is_packet_of each.caller each.number packet ≡ b → get packets key ≡ Some each →
      key_of keys_after each.caller each.number ≡ Some key
  came_indexed key each true is reached =
      let told = is_call_tells each.caller each.number packet is in
      let nowhere : key_of keys each.caller each.number ≡ None = rw (told.0, told.1) at absent in
      let at = held.indexed key each reached in absurd (cc)
  came_indexed key each false is reached = rw is at (keyed each.caller each.number) ∙ held.indexed key each reached

  own_key : (each : Packet) → packet ≡ each → key_of keys_after each.caller each.number ≡ Some slot
  own_key each same = rw (is_call_from packet (ap (λ (p : Packet). p.caller) same) (ap (λ (p : Packet). p.number) same)) at (keyed each.caller each.number)

  pub held_came : IsHeld after keys_after
  held_came = record {
    one_each = long ∙ held.one_each;
    named = λ caller number key. came_named caller number key (is_packet_of caller number packet) refl;
    indexed = λ key each reached. elim (cases_eq key slot) [
      | inl same ↦
          let here : Some packet ≡ Some each = sym written.changed ∙ ap (get after) (sym same) ∙ reached in
          let one : packet ≡ each = cc in own_key each one ∙ ap Some (sym same)
      | inr differs ↦ came_indexed key each (is_packet_of each.caller each.number packet) refl (sym (written.others key differs) ∙ reached)
    ];
  }

  found_by : (caller number : ℕ) (b : Bool) → is_packet_of caller number packet ≡ b →
      find (is_packet_of caller number) (values after) ≡ (if b then Some packet else find (is_packet_of caller number) (values packets))
  found_by caller number true is =
      finds after keys_after held_came caller number ∙ ap (option_and_then (λ key. get after key)) (rw is at (keyed caller number)) ∙ written.changed
  found_by caller number false is =
      finds after keys_after held_came caller number ∙ ap (option_and_then (λ key. get after key)) (rw is at (keyed caller number))
      ∙ elsewhere packets after slot (Some packet) written (key_of keys caller number) (not_vacant caller number)
      ∙ sym (finds packets keys held caller number)

  pub found_came : (caller number : ℕ) → find (is_packet_of caller number)
      (values after) ≡ (if is_packet_of caller number packet then Some packet else find (is_packet_of caller number) (values packets))
  found_came caller number = found_by caller number (is_packet_of caller number packet) refl

-- a call goes
module _ (packets after : Slab Packet) (keys keys_after : List (List ℕ)) (packet : Packet) (caller number slot : ℕ) (held : IsHeld packets keys)
    (at : key_of keys caller number ≡ Some slot) (stood : get packets slot ≡ Some packet) (written : Updates packets after slot None)
    (long : length keys_after ≡ length keys)
    (keyed : (other count : ℕ) → key_of keys_after other count ≡ (if is_same caller number other count then None else key_of keys other count)) where
  mine : (packet.caller ≡ caller) × (packet.number ≡ number)
  mine =
      let named = names packets keys held caller number slot at in let reached = named.reached in let same : named.packet ≡ packet = cc in
      (ap (λ (p : Packet). p.caller) (sym same) ∙ named.of_caller, ap (λ (p : Packet). p.number) (sym same) ∙ named.numbered)

  -- another call has another key
  not_there : (other count key : ℕ) → is_same caller number other count ≡ false → key_of keys other count ≡ Some key → key ≢ slot
  not_there other count key apart there same =
      let named = names packets keys held other count key there in let reached = named.reached in
      let here : get packets key ≡ Some packet = ap (get packets) same ∙ stood in
      let one : named.packet ≡ packet = cc in
      let is : is_same caller number other count ≡ true = both_same other count (sym mine.0 ∙ ap (λ (p : Packet). p.caller) (sym one) ∙ named.of_caller)
      (sym mine.1 ∙ ap (λ (p : Packet). p.number) (sym one) ∙ named.numbered) in
      absurd (cc)

  gone_named : (other count key : ℕ) (b : Bool) → is_same caller number other count ≡ b → key_of keys_after other count ≡ Some key →
      IsSomeAnd (get after key) (λ each. (each.caller ≡ other) × (each.number ≡ count))
  gone_named other count key true is there = let none : key_of keys_after other count ≡ None = rw is at (keyed other count) in absurd (cc)
  gone_named other count key false is there =
      let before : key_of keys other count ≡ Some key = sym (rw is at (keyed other count)) ∙ there in
      rw (written.others key (not_there other count key is before)) (held.named other count key before)

  gone_indexed : (key : ℕ) (each : Packet) (b : Bool) → is_same caller number each.caller each.number ≡ b → key ≢ slot → get packets key ≡ Some each →
      key_of keys_after each.caller each.number ≡ Some key
  gone_indexed key each true is differs reached =
      let told = both_equal caller each.caller number each.number is in
      let there : key_of keys caller number ≡ Some key = rw (told.0, told.1) (held.indexed key each reached) in
      let same : key ≡ slot = cc in absurd (differs same)
  gone_indexed key each false is differs reached = rw is at (keyed each.caller each.number) ∙ held.indexed key each reached

  pub held_gone : IsHeld after keys_after
  held_gone = record {
    one_each = long ∙ held.one_each;
    named = λ other count key. gone_named other count key (is_same caller number other count) refl;
    indexed = λ key each reached. elim (cases_eq key slot) [
      | inl same ↦ let none : get after key ≡ None = ap (get after) same ∙ written.changed in absurd (cc)
      | inr differs ↦ gone_indexed key each (is_same caller number each.caller each.number) refl differs (sym (written.others key differs) ∙ reached)
    ];
  }

  pub found_gone : (other count : ℕ) → is_packet_of other count packet ≡ false →
      find (is_packet_of other count) (values after) ≡ find (is_packet_of other count) (values packets)
  found_gone other count apart =
      let is : is_same caller number other count ≡ false = rw (mine.0, mine.1) at apart in
      finds after keys_after held_gone other count ∙ ap (option_and_then (λ key. get after key)) (rw is at (keyed other count))
      ∙ elsewhere packets after slot None written (key_of keys other count) (λ key. not_there other count key is)
      ∙ sym (finds packets keys held other count)
