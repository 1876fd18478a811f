use Rattle.std.proofs.Common.{◌≡◌, ℕ, true, eqb, get_or, refl, sym, ◌∙◌}
use Rattle.std.specs.List.{list_any}
use Rattle.std.proofs.lemmas.Bool.{eq-eqb}
use Rattle.std.proofs.lemmas.List.Folds.{list_any_at}
use Rattle.mls_tree.specs.Tree.{children}
use Rattle.mls_tree.proofs.Laws.{list_any-children, parent_from_child}
use Rattle.mls_state.proofs.Tables.{active-tree}
use Rattle.mls_state.proofs.state.State.children.Goals as goal

pub children-requires : goal.children-requires
children-requires g c = sym (active-tree c.self.inside c.self.invariant c.args.o) ∙ rw (← c.self.view_is) at c.requires

pub returns-clause-active : goal.returns-clause-active
returns-clause-active g c = rw (c.children.ensures, ← c.self.view_is) (λ k d within.
    let m = c.self.inside.tree.parent in
    let tree = c.self.invariant.tree in
    let x : ℕ = get_or (children m c.args.o) k d in
    let listed : list_any (eqb x) (children m c.args.o) ≡ true = list_any_at (eqb x) (children m c.args.o) k d within (eq-eqb x x refl) in
    let step = parent_from_child m x c.args.o (sym (list_any-children m tree x c.args.o) ∙ listed) in
    active-tree c.self.inside c.self.invariant x ∙ (tree.children_active x c.args.o step).0)
