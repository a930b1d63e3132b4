-- What a writer holds after one more text.
use Rattle.std.proofs.Common.{ℕ, List, [], ◌++◌, Option, Some, None, append_assoc, append-nil, refl, sym}
use Rattle.std.specs.Io.KnownBytes.{Appends}
use Rattle.ray_orders.specs.Told.{Grows}

pub grows_not : (old : Option (List ℕ)) → Grows old old
grows_not None = ([], tt)
grows_not (Some xs) = ([], sym (append-nil xs))

pub grows_more : (old mid new : Option (List ℕ)) (text : List ℕ) → Grows old mid → Appends mid new text → Grows old new
grows_more None mid new text grows more = ([], tt)
grows_more (Some xs) (Some ys) (Some zs) text grows more = (grows.0 ++ text, rw (more, grows.1, append_assoc) refl)
grows_more (Some xs) None new text grows more = absurd grows.1
grows_more (Some xs) (Some ys) None text grows more = absurd more

-- where some text was written, and then some more, some text was written and nothing else
pub grows_both : (old mid new : Option (List ℕ)) → Grows old mid → Grows mid new → Grows old new
grows_both old mid new one two = grows_more old mid new two.0 one two.1
