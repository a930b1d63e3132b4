-- Plain bytes are text.
use Rattle.act_scripts.proofs.Common.{◌≡◌, ℕ, ◌<◌, true, List, [], ◌∷◌, arith, list_all, IsAscii, IsAscii-nil, IsAscii-cons, nat_tests, and_parts}
use Rattle.act_scripts.proofs.Common.{is_plain_byte}

plain_below : (b : ℕ) → is_plain_byte b ≡ true → b < 128
plain_below b h = grind (arith, nat_tests)

pub plain_ascii : (bs : List ℕ) → list_all is_plain_byte bs ≡ true → IsAscii bs
plain_ascii [] h = IsAscii-nil
plain_ascii (b ∷ bs) h = let p = and_parts (is_plain_byte b) (list_all is_plain_byte bs) h in IsAscii-cons b bs (plain_below b p.0) (plain_ascii bs p.1)
