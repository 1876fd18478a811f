-- Each request leaves a secure state secure.
use Rattle.std.proofs.lemmas.Bool.Decides.{nat_tests}
use Rattle.std.proofs.Common.{◌≡◌, ℕ, true, ◌&&◌, arith}
use Rattle.mls_tables.specs.declared.mode.Mode.{Mode}
use Rattle.mls_requests.specs.declared.action.Action.{Action}
use Rattle.mls_requests.specs.declared.action.Action.TheVariants.{Get, Release, Give, Rescind, Create, Delete, SubjectLevel, ObjectLevel}
use Rattle.mls_requests.specs.declared.request.Request.{Request}
use Rattle.mls_state.specs.State.{State, is_subject}
use Rattle.mls_state.specs.Properties.{IsSecure, HasTree, simple_holds, star_holds, discretionary_holds, integrity_holds}
use Rattle.mls_rules.specs.Rules.{conditions, change, after, names_known, AllHold}
use Rattle.mls_state.proofs.Laws.{Each-insert, Each-remove}
use Rattle.mls_rules.proofs.AfterKeeps.{after_keeps}
use Rattle.mls_rules.proofs.SecurityGive.{give_secure, rescind_secure}
use Rattle.mls_rules.proofs.SecurityLevels.{subject_level_secure, object_level_secure}
use Rattle.mls_rules.proofs.SecurityTree.{create_secure, delete_secure}
use Rattle.mls_rules.proofs.TreeKept.{change_tree, names_parent}

-- to get adds a triple that passes every test
get_secure : (v : State) (s : ℕ) (x : Mode) (o : ℕ) → IsSecure v → HasTree (change v s (Get x o))
    → AllHold (conditions v s (Get x o)) → IsSecure (change v s (Get x o))
get_secure v s x o h tree (permitted, (simple, (star, (integrity, u)))) = record {
  simple = Each-insert v.accesses (s, o, x) (simple_holds v) h.simple simple;
  star = Each-insert v.accesses (s, o, x) (star_holds v) h.star star;
  discretionary = Each-insert v.accesses (s, o, x) (discretionary_holds v) h.discretionary permitted;
  compatible = h.compatible;
  tree = tree;
  integrity = Each-insert v.accesses (s, o, x) (integrity_holds v) h.integrity integrity;
  ceiling = h.ceiling;
}

-- to release takes a triple away
release_secure : (v : State) (s : ℕ) (x : Mode) (o : ℕ) → IsSecure v → HasTree (change v s (Release x o))
    → IsSecure (change v s (Release x o))
release_secure v s x o h tree = record {
  simple = Each-remove v.accesses (s, o, x) (simple_holds v) h.simple;
  star = Each-remove v.accesses (s, o, x) (star_holds v) h.star;
  discretionary = Each-remove v.accesses (s, o, x) (discretionary_holds v) h.discretionary;
  compatible = h.compatible;
  tree = tree;
  integrity = Each-remove v.accesses (s, o, x) (integrity_holds v) h.integrity;
  ceiling = h.ceiling;
}

-- a granted change keeps security
pub change_secure : (v : State) (s : ℕ) (a : Action) → IsSecure v → HasTree (change v s a)
    → (is_subject v s && names_known v a) ≡ true → AllHold (conditions v s a) → IsSecure (change v s a)
change_secure v s (Get x o) h tree known holds = get_secure v s x o h tree holds
change_secure v s (Release x o) h tree known holds = release_secure v s x o h tree
change_secure v s (Give x t o) h tree known holds = give_secure v s x t o h tree
change_secure v s (Rescind x t o) h tree known holds = rescind_secure v s x t o h tree
change_secure v s (Create p l i) h tree known (authority, (compatible, (integrity, (room, u)))) =
    create_secure v s p l i h tree (names_parent v s p l i known) compatible integrity (grind (arith, nat_tests, room))
change_secure v s (Delete o) h tree known holds = delete_secure v s o h tree
change_secure v s (SubjectLevel l) h tree known (under, (star, u)) = subject_level_secure v s l h tree under star
change_secure v s (ObjectLevel o l) h tree known (authority, (fits, (simple, (star, u)))) = object_level_secure v o l h tree fits simple star

-- Each request leaves a secure state secure.
pub after_secure : (v : State) (r : Request) → IsSecure v → IsSecure (after v r)
after_secure v r h = after_keeps IsSecure v r h (λ granted.
    let tree = change_tree v r.subject r.action h.tree granted.0 granted.1 in change_secure v r.subject r.action h tree granted.0 granted.1)
