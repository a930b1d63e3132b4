-- What a kind of a script holds.
use Rattle.act_types.specs.KindState.{KindState, CounterAt, TableOf, AccountAt, ItemsOf}
use Rattle.act_ends.specs.declared.kind.Kind.{Kind}
use Rattle.act_ends.specs.declared.kind.Kind.TheVariants as kind

abbrev pub state_of : Kind → KindState
state_of (kind.Counter number) = CounterAt number
state_of (kind.Table pairs) = TableOf pairs
state_of (kind.Account balance) = AccountAt balance
state_of (kind.List items) = ItemsOf items
