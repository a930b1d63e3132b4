use Rattle.act_executor.proofs.Common.{List, Step, Driven, IsDrivenBy, all_in, all_by_places}
use Rattle.act_executor.proofs.EndsOfRuns.ByCode.{is_joined_by}
use Rattle.act_executor.proofs.laws.joined_callers_are_consistent.Goals as goal

pub returns : goal.returns
returns g _ mails controls replies casts plans codes driven served j ran =
    let tells = g.C.Code.tells in let Traced : Driven → List Step → Type 0 = λ d steps. Unit {0} in
    is_joined_by tells mails controls replies casts plans codes driven served j Traced
    (all_by_places (λ d. (by : IsDrivenBy tells mails controls casts plans codes d) × Traced d by.steps) driven
    (λ i d at. (all_in (IsDrivenBy tells mails controls casts plans codes) {xs = driven} {x = d} j.all_driven (record { place = i; at = at }), tt))) ran
