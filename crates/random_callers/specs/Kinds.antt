-- What an actor of any of the four kinds holds.
use Rattle.act_types.specs.KindState.{KindState, CounterAt, TableOf, AccountAt, ItemsOf}
use Rattle.random_callers.specs.declared.kinds.AnyKind.{AnyKind}
use Rattle.random_callers.specs.declared.kinds.AnyKind.TheVariants.{Counting, Tabling, Accounting, Listing}

abbrev pub state_of : AnyKind → KindState
state_of (Counting number) = CounterAt number
state_of (Tabling pairs) = TableOf pairs
state_of (Accounting balance) = AccountAt balance
state_of (Listing items) = ItemsOf items
