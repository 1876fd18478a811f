use Rattle.std.proofs.Common.{ℕ, List, Bor, refl, sym, ap, ◌∙◌}
use Rattle.serde_json.specs.Find.{as_str}
use Rattle.serde_json.specs.View.{view}
use Rattle.mls_start_text.specs.Each.{having, each_of}
use Rattle.mls_start_text.proofs.Rows.{rows_more, items_lack}
use Rattle.mls_complete.proofs.short.read_texts.Goals as goal

pub returns-in_default-as_str-clause-fault : goal.returns-in_default-as_str-clause-fault
returns-in_default-as_str-clause-fault c =
    λ _. (refl, ap (λ o. having o (each_of as_str)) (sym c.in-Some.ensures) ∙ items_lack view as_str c.in-Some.list.now c.loop-value.value-index c.value-item.result c.loop-value-test.true c.value-item.is (sym c.in_default-as_str.ensures))

pub loop-value-preserved : goal.loop-value-preserved
loop-value-preserved c =
    rows_more view as_str (λ (t : Bor (List ℕ)). t.now) c.in-Some.list.now c.loop-value.value-index c.value-item.result _ _ c.in-Some-as_str.text c.loop-value-test.true c.value-item.is (sym c.in-Some-as_str.ensures) c.in_ok-push.ensures.items c.loop-value.invariant
