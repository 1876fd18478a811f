-- What the closure has is just what could come about.
use Rattle.std.proofs.Common.{◌≡◌, ℕ, Bool, true, ◌⊎◌, inl, inr, List, sym, ap, subst, ◌∙◌}
use Rattle.std.proofs.lemmas.Bool.{and_parts}
use Rattle.std.specs.FinSet as set
use Rattle.mls_tables.specs.Triples.{TripleSet}
use Rattle.mls_tables.specs.declared.mode.Mode.{Mode}
use Rattle.mls_tables.specs.declared.mode.Mode.TheVariants.{Write}
use Rattle.mls_tables.proofs.Laws.{is_triple-itself}
use Rattle.mls_requests.specs.declared.request.Request.{Request}
use Rattle.mls_requests.specs.declared.entry.Entry.{Entry}
use Rattle.mls_state.specs.State.{State, is_subject, is_active}
use Rattle.mls_state.specs.Properties.{IsSecure, HasWholeTables, simple_holds}
use Rattle.mls_monitor.specs.Journal.{fold}
use Rattle.mls_laws.proofs.Laws.{fold_secure, fold-append}
use Rattle.mls_futures.specs.Closure.{HasTrusted, Qualifies, CouldGet, permitted, given_at_root, given_below}
use Rattle.mls_futures.specs.Futures.{HasLabelsWithin, HoldsNothing, CouldCome}
use Rattle.mls_futures.proofs.Scripts.{Goes}
use Rattle.mls_futures.proofs.Steps.{HoldsOnly}
use Rattle.mls_futures.proofs.Coming.{TrustedKnown, comes}
use Rattle.mls_futures.proofs.Journals.{without, entries_of, number_after, requests_of, script_leads, script_by, script_keeps, releases_of, are_releases, releases_lead, releases_keep, none_left, all_known, legal_both, stays_both}

-- the closure looks at no access
trusted_without : (v : State) (acts : ℕ → Bool) (b : TripleSet) → HasTrusted v acts → HasTrusted (record v { accesses = b }) acts
trusted_without v acts b t = record { subject = t.subject; actor = t.actor; trusted = t.trusted }

qualifies_without : (v : State) (acts : ℕ → Bool) (b : TripleSet) (s o : ℕ) (x : Mode) → Qualifies v acts s o x → Qualifies (record v { accesses = b }) acts s o x
qualifies_without v acts b s o x q = record { actor = q.actor; known = q.known; integrity = q.integrity; simple = from q.simple } where
  from : (simple_holds v (s, o, x) ≡ true) ⊎ HasTrusted v acts → (simple_holds v (s, o, x) ≡ true) ⊎ HasTrusted (record v { accesses = b }) acts
  from (inl holds) = inl holds
  from (inr t) = inr (trusted_without v acts b t)

pub could_without : (v : State) (acts : ℕ → Bool) (b : TripleSet) (s o : ℕ) (x : Mode) → CouldGet v acts s o x → CouldGet (record v { accesses = b }) acts s o x
could_without v acts b s o x (permitted has q) = permitted has (qualifies_without v acts b s o x q)
could_without v acts b s o x (given_at_root t q) = given_at_root (trusted_without v acts b t) (qualifies_without v acts b s 0 x q)
could_without v acts b s o x (given_below giver p at could q) =
    given_below giver p at (could_without v acts b giver p Write could) (qualifies_without v acts b s o x q)

-- without what was held the state is secure still
pub secure_without : (v : State) → IsSecure v → IsSecure (record v { accesses = without v.accesses (set.items v.accesses) })
secure_without v h =
    subst IsSecure (releases_lead v 0 (set.items v.accesses) (all_known v h.tree.accesses_known))
    (fold_secure v (entries_of v 0 (releases_of (set.items v.accesses))) h)

pub object_of : (v : State) (acts : ℕ → Bool) (s o : ℕ) (x : Mode) → CouldGet v acts s o x → is_active v o ≡ true
object_of v acts s o x (permitted has q) = (and_parts (is_subject v s) (is_active v o) q.known).1
object_of v acts s o x (given_at_root t q) = (and_parts (is_subject v s) (is_active v 0) q.known).1
object_of v acts s o x (given_below giver p at could q) = (and_parts (is_subject v s) (is_active v o) q.known).1

pub could_come : (v : State) (acts : ℕ → Bool) (s o : ℕ) (x : Mode) → IsSecure v → HasWholeTables v → HasLabelsWithin v → CouldGet v acts s o x → CouldCome v acts s o x
could_come v acts s o x h whole within could = record {
  releases = releases;
  requests = requests;
  legal = legal_both v asked (requests_of acts w goes.last goes.script);
  releasing = are_releases v 0 (set.items v.accesses);
  released = subst HoldsNothing (sym free) (λ u. none_left v.accesses u);
  by_actors = script_by acts w goes.last (number_after 0 asked) goes.script;
  stays = stays_both v releases requests o (releases_keep v 0 (set.items v.accesses) o object)
      (script_keeps acts w goes.last (number_after 0 asked) goes.script o object_still);
  held = ap (λ (u : State). set.contains u.accesses (s, o, x))
      (fold-append v releases requests ∙ script_leads acts w goes.last (number_after 0 asked) goes.script)
      ∙ goes.now (s, o, x) ∙ is_triple-itself (s, o, x);
} where
  asked : List Request
  asked = releases_of (set.items v.accesses)

  releases : List Entry
  releases = entries_of v 0 asked

  w : State
  w = fold v releases

  free : w ≡ record v { accesses = without v.accesses (set.items v.accesses) }
  free = releases_lead v 0 (set.items v.accesses) (all_known v h.tree.accesses_known)

  object : is_active v o ≡ true
  object = object_of v acts s o x could

  object_still : is_active w o ≡ true
  object_still = ap (λ (u : State). is_active u o) free ∙ object

  goes : Goes acts w (HoldsOnly (s, o, x))
  goes =
      comes acts w (fold_secure v releases h) (subst HasLabelsWithin (sym free) within) (subst TrustedKnown (sym free) whole.trusted)
      (subst HoldsNothing (sym free) (λ u. none_left v.accesses u)) s o x
      (subst (λ u. CouldGet u acts s o x) (sym free) (could_without v acts (without v.accesses (set.items v.accesses)) s o x could))

  requests : List Entry
  requests = entries_of w (number_after 0 asked) (requests_of acts w goes.last goes.script)
