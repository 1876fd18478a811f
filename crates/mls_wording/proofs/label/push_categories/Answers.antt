use Rattle.std.proofs.Common.{◌≡◌, ◌++◌, ◌∷◌, [], map, string_bytes, refl, sym, ap, ◌∙◌, arith, append-nil}
use Rattle.mls_labels.specs.Ascending.{ascending}
use Rattle.mls_labels.specs.LabelText.{words_after}
use Rattle.mls_wording.specs.Wording.{numbered}
use Rattle.mls_wording.proofs.Extending.{stays, follows, on_err}
use Rattle.mls_wording.proofs.Categories.{words_more, none_ascend}
use Rattle.mls_wording.proofs.label.push_categories.Goals as goal

pub loop-number-init : goal.loop-number-init
loop-number-init c = record { told = refl; grown = stays _ _ refl; ascii = omega arith }

pub loop-number-preserved : goal.loop-number-preserved
loop-number-preserved c = record {
  told = rw c.in_ok-push_category.ensures.ok
      (words_more (string_bytes c.loop-number.text) c.loop-number.separator c.in-Some.number (ascending c.pop_first.new.self) (ascending c.loop-number.rest) c.in-Some.ensures.first
      ∙ c.loop-number.invariant.told);
  grown = follows (string_bytes c.args.text.now) (string_bytes c.loop-number.text) (string_bytes c.push_category.new.text) c.loop-number.invariant.grown (c.loop-number.separator ∷ numbered c.in-Some.number, c.in_ok-push_category.ensures.ok);
  ascii = omega arith;
}

pub returns-clause-ok : goal.returns-clause-ok
returns-clause-ok c =
    let none : ascending c.loop-number.rest ≡ [] = ap ascending c.in_default.ensures.none ∙ none_ascend in
    sym (append-nil (string_bytes c.loop-number.text))
    ∙ ap (λ ns. string_bytes c.loop-number.text ++ words_after c.loop-number.separator (map numbered ns)) (sym none)
    ∙ c.loop-number.invariant.told

pub returns-in_err-push_category-clause-err : goal.returns-in_err-push_category-clause-err
returns-in_err-push_category-clause-err c =
    on_err c.from_residual.result (follows (string_bytes c.args.text.now) (string_bytes c.loop-number.text) (string_bytes c.push_category.new.text) c.loop-number.invariant.grown c.in_err-push_category.ensures.err)
