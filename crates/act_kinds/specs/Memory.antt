-- Which calls a kind may want memory for.
use Rattle.std.specs.Prelude.{Bool, true, false}
use Rattle.act_types.specs.KindState.{KindState, TableOf, ItemsOf, OwnAt}
use Rattle.act_types.specs.declared.call.Method.{Method}
use Rattle.act_types.specs.declared.call.Method.TheVariants.{Put, Get, Push, At}

-- a table and a list copy what they take in and what they look up; a kind of one's own may want memory for each call
abbrev pub takes_memory_of : KindState → Method → Bool
takes_memory_of (TableOf pairs) Put = true
takes_memory_of (TableOf pairs) Get = true
takes_memory_of (ItemsOf items) Push = true
takes_memory_of (ItemsOf items) At = true
takes_memory_of (OwnAt behaviour) method = true
takes_memory_of state method = false
