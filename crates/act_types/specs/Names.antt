-- Which texts name a method or a fault of a kind of one's own.
use Rattle.std.specs.Prelude.{◌≡◌, ℕ, ◌-◌, ◌++◌, ◌==◌, ◌≤◌, Bool, true, false, not, ◌&&◌, ◌||◌, List, [], ◌∷◌, length, take, replicate, nat_le, bytes_eq, codes}
use Rattle.std.specs.Prelude.{IsUtf8}
use Rattle.std.specs.List.{list_all, list_any}
use Rattle.std.specs.Char.{is_ascii_alphabetic, is_ascii_alphanumeric}
use Rattle.act_types.specs.declared.limits.TheConstants.{MAX_NAME_BYTES}

-- the methods of the four kinds, and that of the actor itself
abbrev pub method_words : List (List ℕ)
method_words =
    codes "add" ∷ codes "get" ∷ codes "put" ∷ codes "del" ∷ codes "size" ∷ codes "deposit" ∷ codes "withdraw" ∷
    codes "balance" ∷
    codes "push" ∷ codes "pop" ∷ codes "at" ∷ codes "len" ∷ codes "terminate" ∷ []

-- the faults that are no kind's own, and the value that is a word
abbrev pub answer_words : List (List ℕ)
answer_words =
    codes "NoMethod" ∷ codes "BadArgs" ∷ codes "Overflow" ∷ codes "NoKey" ∷ codes "BadAmount" ∷ codes "Insufficient" ∷
    codes "NoItems" ∷ codes "NoItem" ∷ codes "KindFull" ∷ codes "Dependency" ∷ codes "ActorDied" ∷ codes "unit" ∷ []

-- the first words of a script's lines, and those of a role
abbrev pub script_words : List (List ℕ)
script_words =
    codes "actor" ∷ codes "submit" ∷ codes "copy" ∷ codes "release" ∷ codes "kill" ∷ codes "send" ∷ codes "deliver" ∷
    codes "run" ∷
    codes "collect" ∷ codes "take" ∷ codes "tell" ∷ codes "retire" ∷ codes "await" ∷ codes "max" ∷ []

abbrev pub kind_words : List (List ℕ)
kind_words = codes "counter" ∷ codes "table" ∷ codes "account" ∷ codes "list" ∷ []

abbrev pub is_one_of : List (List ℕ) → List ℕ → Bool
is_one_of words text = list_any (bytes_eq text) words

-- a word that scripts and reports have already
abbrev pub is_taken : List ℕ → Bool
is_taken text = is_one_of method_words text || is_one_of answer_words text || is_one_of script_words text
    || is_one_of kind_words text

-- a letter, a digit or `_`
abbrev pub is_name_byte : ℕ → Bool
is_name_byte byte = is_ascii_alphanumeric byte || byte == 95

abbrev pub begins_with_letter : List ℕ → Bool
begins_with_letter [] = false
begins_with_letter (byte ∷ bytes) = is_ascii_alphabetic byte

-- 1 to 18 letters, digits and `_`, a letter first, and no word that is taken
abbrev pub is_name : List ℕ → Bool
is_name text = begins_with_letter text && list_all is_name_byte text && nat_le (length text) MAX_NAME_BYTES
    && not (is_taken text)

-- a name lies in the first of these bytes, and zeros behind it
pub record IsNameIn (len : ℕ) (bytes : List ℕ) : Type 0 where
  pub fits : len ≤ MAX_NAME_BYTES
  pub whole : length (take len bytes) ≡ len
  pub zeros : take len bytes ++ replicate (MAX_NAME_BYTES - len) 0 ≡ bytes
  pub name : is_name (take len bytes) ≡ true
  pub utf8 : ∥ IsUtf8 (take len bytes) ∥₁
