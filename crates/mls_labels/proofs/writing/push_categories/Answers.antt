use Rattle.std.proofs.Common.{◌≡◌, ◌++◌, ◌∷◌, [], map, nat_lt, length, string_bytes, refl, sym, ap, ◌∙◌, arith, append-nil}
use Rattle.mls_labels.specs.Ascending.{ascending}
use Rattle.mls_labels.proofs.Numbers.{ascending-all, ascending-empty}
use Rattle.mls_labels.specs.LabelText.{name_at, words_after}
use Rattle.mls_labels.proofs.LabelWrites.{on_err, words_more, first_within, others_within, Extends-trans}
use Rattle.mls_labels.proofs.writing.push_categories.Goals as goal

pub loop-n-init : goal.loop-n-init
loop-n-init g c = record {
  told = refl;
  grown = ([], sym (append-nil (string_bytes c.args.text.now)));
  named = ascending-all c.args.categories (λ n. nat_lt n (length c.args.names.now)) c.requires;
  ascii = omega arith;
}

pub name-requires : goal.name-requires
name-requires g c = first_within c.in-Some.n (length c.args.names.now) (ascending c.pop_first.new.self) (ascending c.loop-n.rest) c.in-Some.ensures.first c.loop-n.invariant.named

pub loop-n-preserved : goal.loop-n-preserved
loop-n-preserved g c = record {
  told = rw c.in_ok-push_name.ensures.ok
      (words_more (string_bytes c.loop-n.text) c.loop-n.separator c.args.names.now c.in-Some.n (ascending c.pop_first.new.self) (ascending c.loop-n.rest) c.name.result.now c.in-Some.ensures.first c.name.ensures
      ∙ c.loop-n.invariant.told);
  grown = Extends-trans (string_bytes c.args.text.now) (string_bytes c.loop-n.text) (string_bytes c.push_name.new.text) c.loop-n.invariant.grown (c.loop-n.separator ∷ c.name.result.now, c.in_ok-push_name.ensures.ok);
  named = others_within c.in-Some.n (length c.args.names.now) (ascending c.pop_first.new.self) (ascending c.loop-n.rest) c.in-Some.ensures.first c.loop-n.invariant.named;
  ascii = omega arith;
}

pub returns-clause-ok : goal.returns-clause-ok
returns-clause-ok g c =
    let none : ascending c.loop-n.rest ≡ [] = ap ascending c.in_default.ensures.none ∙ ascending-empty in
    sym (append-nil (string_bytes c.loop-n.text))
    ∙ ap (λ ns. string_bytes c.loop-n.text ++ words_after c.loop-n.separator (map (name_at c.args.names.now) ns)) (sym none)
    ∙ c.loop-n.invariant.told

pub returns-in_err-push_name-clause-err : goal.returns-in_err-push_name-clause-err
returns-in_err-push_name-clause-err g c =
    on_err c.from_residual.result (Extends-trans (string_bytes c.args.text.now) (string_bytes c.loop-n.text) (string_bytes c.push_name.new.text) c.loop-n.invariant.grown c.in_err-push_name.ensures.err)
