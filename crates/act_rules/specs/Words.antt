-- What the words of a script spell. Each value has one spelling.
use Rattle.std.specs.Prelude.{ℕ, ◌^◌, ◌==◌, ◌-◌, ◌&&◌, ℤ, pos, neg_ℤ, Bool, false, if◌then◌else◌, nat_lt, nat_le, List, [], ◌∷◌, length, take, drop}
use Rattle.std.specs.Prelude.{slice_index, find, Option, Some, None, Result, Ok, Err, bytes_eq, codes}
use Rattle.std.specs.List.{list_all}
use Rattle.std.specs.Char.{is_ascii_digit}
use Rattle.std.specs.Str.Parse.{digits_value}
use Rattle.act_types.specs.declared.limits.TheConstants.{MAX_ACTORS, MAX_CALLERS, MAX_CALLS}
use Rattle.act_types.specs.GoodText.{is_good_text}
use Rattle.act_types.specs.Texts.{method_text}
use Rattle.act_types.specs.declared.call.Value.{Value}
use Rattle.act_types.specs.declared.call.Value.TheVariants as value
use Rattle.act_types.specs.declared.call.Method.{Method}
use Rattle.act_types.specs.declared.call.Method.TheVariants as method
use Rattle.act_types.specs.declared.call.Arg.{Arg}
use Rattle.act_types.specs.declared.call.Arg.TheVariants.{Plain, Fut}
use Rattle.act_rules.specs.declared.script.KindName.{KindName}
use Rattle.act_rules.specs.declared.script.KindName.TheVariants.{Counter, Table, Account, ListKind}
use Rattle.act_rules.specs.declared.script.Wrong.{Wrong}
use Rattle.act_rules.specs.declared.script.Wrong.TheVariants.{BadLine}

-- first the one, and with what it gives the other; the first fault is that of both
infixl 10 ◌>>=◌
abbrev pub ◌>>=◌ : {A B F : Type 0} → Result A F → (A → Result B F) → Result B F
(Ok x) >>= f = f x
(Err e) >>= f = Err e

abbrev pub Word : Type 0
Word = List ℕ

-- the one that was found
abbrev pub or_bad_line : {A : Type 0} → Option A → Result A Wrong
or_bad_line None = Err BadLine
or_bad_line (Some x) = Ok x

-- the one of a list whose text is the word
abbrev pub named_by : {A : Type 0} → (A → Word) → List A → Word → Result A Wrong
named_by text all word = or_bad_line (find (λ x. bytes_eq word (text x)) all)

abbrev pub kind_text : KindName → Word
kind_text Counter = codes "counter"
kind_text Table = codes "table"
kind_text Account = codes "account"
kind_text ListKind = codes "list"

abbrev pub all_kinds : List KindName
all_kinds = Counter ∷ Table ∷ Account ∷ ListKind ∷ []

abbrev pub all_methods : List Method
all_methods =
    method.Add ∷ method.Get ∷ method.Put ∷ method.Del ∷ method.Size ∷ method.Deposit ∷ method.Withdraw ∷
    method.Balance ∷
    method.Push ∷ method.Pop ∷ method.At ∷ method.Len ∷ method.Terminate ∷ []

unfoldable pub method_at : Word → Result Method Wrong
method_at word = named_by method_text all_methods word

-- digits, with no 0 before another one
abbrev pub is_numeral : Word → Bool
is_numeral ds = if length ds == 0 then false
    else (if slice_index ds 0 == 48 then length ds == 1 else list_all is_ascii_digit ds)

-- a number below 2 ^ 32
unfoldable pub number_at : Word → Result ℕ Wrong
number_at word = if is_numeral word && nat_lt (digits_value 10 word) (2 ^ 32) then Ok (digits_value 10 word)
    else Err BadLine

-- a limit: a number from 1 to 65,536
unfoldable pub limit_at : Word → Result ℕ Wrong
limit_at word = do
  n ← number_at word
  if nat_lt n 1 then Err BadLine else (if nat_lt MAX_CALLS n then Err BadLine else Ok n)

-- a numeral, or a minus and one that does not begin with 0
abbrev pub is_integer : Word → Bool
is_integer word = if slice_index word 0 == 45
    then (if slice_index word 1 == 48 then false else is_numeral (drop 1 word)) else is_numeral word

-- whether its number is an i64
abbrev pub fits_int : Word → Bool
fits_int word = if slice_index word 0 == 45 then nat_le (digits_value 10 (drop 1 word)) (2 ^ 63)
    else nat_lt (digits_value 10 word) (2 ^ 63)

-- the number that a sign and digits spell
abbrev pub int_value : Word → ℤ
int_value word = if slice_index word 0 == 45 then neg_ℤ (pos (digits_value 10 (drop 1 word)))
    else pos (digits_value 10 word)

unfoldable pub int_at : Word → Result ℤ Wrong
int_at word = if is_integer word && fits_int word then Ok (int_value word) else Err BadLine

-- what stands after a first byte, which is the mark
abbrev pub marked_at : Word → ℕ → Result Word Wrong
marked_at [] mark = Err BadLine
marked_at (b ∷ bs) mark = if b == mark then Ok bs else Err BadLine

-- what stands before a last byte, which is the mark
unfoldable pub closed_at : Word → ℕ → Result Word Wrong
closed_at bs mark = if nat_lt 0 (length bs) && (slice_index bs (length bs - 1) == mark)
    then Ok (take (length bs - 1) bs) else Err BadLine

-- `c` and a number from 1 to 16
unfoldable pub caller_at : Word → Result ℕ Wrong
caller_at word = do
  digits ← marked_at word 99
  n ← number_at digits
  if nat_lt n 1 then Err BadLine else (if nat_lt MAX_CALLERS n then Err BadLine else Ok n)

-- `a` and a number from 1 to 8
unfoldable pub actor_at : Word → Result ℕ Wrong
actor_at word = do
  digits ← marked_at word 97
  n ← number_at digits
  if nat_lt n 1 then Err BadLine else (if nat_lt MAX_ACTORS n then Err BadLine else Ok n)

-- a good text between quotes
unfoldable pub text_at : Word → Result (List ℕ) Wrong
text_at word = do
  opened ← marked_at word 34
  text ← closed_at opened 34
  if is_good_text text then Ok text else Err BadLine

-- `unit`, a text or a number
unfoldable pub value_at : Word → Result Value Wrong
value_at word =
    if bytes_eq word (codes "unit") then Ok value.Unit else
    (if slice_index word 0 == 34 then (text_at word >>= λ t. Ok (value.Text t))
    else (int_at word >>= λ n. Ok (value.Int n)))

-- `@` and a future, or a value
unfoldable pub arg_at : Word → Result Arg Wrong
arg_at word =
    if slice_index word 0 == 64 then (marked_at word 64 >>= λ digits. number_at digits >>= λ k. Ok (Fut k))
    else (value_at word >>= λ v. Ok (Plain v))
