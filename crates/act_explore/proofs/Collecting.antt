-- Ends that are kept, one after another.
use Rattle.act_explore.proofs.Common.{◌≡◌, List, [], ◌∷◌, ◌++◌, refl, sym, ap, ◌∙◌, subst, All, Contains, All-push, Contains-push, Contains-append_left, Event}
use Rattle.act_explore.proofs.Common.{ActorSpec, History, history, Found, HasPassed, IsFoundBy, IsFound}

pub found_last : (old : List Found) {new : List Found} (found : Found) → new ≡ old ++ found ∷ [] → IsFoundBy new found.events.items
found_last old found is = record { found = found; listed = subst (λ l. Contains l found) (sym is) (Contains-push old found); events_are = refl }

pub found_before : {old new : List Found} (found : Found) {events : List Event} → new ≡ old ++ found ∷ [] → IsFoundBy old events → IsFoundBy new events
found_before {old} found is before = record {
  found = before.found;
  listed = subst (λ l. Contains l before.found) (sym is) (Contains-append_left old (found ∷ []) before.found before.listed);
  events_are = before.events_are;
}

pub all_more : (P : Found → Type 0) (old : List Found) {new : List Found} (found : Found) → new ≡ old ++ found ∷ [] → P found → All P old → All P new
all_more P old found is here before = subst (All P) (sym is) (All-push P old found before here)

-- whoever has passed was found
pub passed_found : (casts : List ActorSpec) (all : List Found) (h : History) → HasPassed casts (IsFoundBy all) h → IsFound casts all h
passed_found casts all h has = record {
  found = has.passed.found;
  listed = has.passed.listed;
  history_is = has.history_is ∙ ap (λ l. history casts l) (sym has.passed.events_are);
}
