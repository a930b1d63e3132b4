use Rattle.act_replay.proofs.Common.{rules, ◌≡◌, ◌+◌, true, length, ap, subst, arith, All-more, sum_by_more, Page}
use Rattle.act_replay.proofs.merged.count_marks.Goals as goal

pub loop-page-preserved : goal.loop-page-preserved
loop-page-preserved c =
    let pages = c.args.pages.now in let at = c.loop-page.page-index in let page = c.page-item.result in let many = λ (page : Page). length page.marks.items in
    let whole = All-more (λ (page : Page). page.is_whole ≡ true) pages at page c.loop-page-test.true c.loop-page.invariant.0
    (subst (λ (page : Page). page.is_whole ≡ true) c.page-item.is c.if-not-page.false) in
    let sum : c.in_ok-marks.marks ≡ c.loop-page.marks + c.len.result = search rules in
    let here : c.len.result ≡ many page = search rules in
    (whole, omega (arith, sum, here, ap many c.page-item.is, c.loop-page.invariant.1, sum_by_more many pages at page c.loop-page-test.true))
