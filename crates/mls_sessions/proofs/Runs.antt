-- Sessions that come back, and feeds at their stages.
use Rattle.std.proofs.Common.{◌≡◌, true, ℕ, ◌+◌, ◌≤◌, List, [], ◌∷◌, ◌++◌, length, refl, sym, ap, ◌∙◌, subst, append-nil}
use lib.Seq.{drop-append_seam}
use Rattle.std.specs.Prelude.{drop}
use Rattle.mls_requests.specs.declared.entry.Entry.{Entry}
use Rattle.mls_state.specs.State.{State}
use Rattle.mls_monitor.specs.Journal.{Monitor}
use Rattle.mls_turns.specs.Journals.{journal_of}
use Rattle.mls_monitor.specs.Entries.{AllBelow}
use Rattle.mls_sessions.specs.Rule.{begun, base}
use Rattle.mls_sessions.specs.Sessions.{Office, Session, IsOf, Ascending, Leaves, number_of}
use Rattle.mls_sessions.specs.Runs.{Returned, Grew}
use Rattle.mls_monitor.specs.Feeds.{AllAt}
use Rattle.mls_monitor.specs.declared.feed.Stage.{Stage}

pub returned_snoc : (o : Office) (ss ts : List Session) (s t : Session) → Returned o ss ts → IsOf o t → number_of t.view ≡ number_of s.view → Returned o (ss ++ s ∷ []) (ts ++ t ∷ [])
returned_snoc o [] [] s t r is same = (is, same, tt)
returned_snoc o [] (y ∷ ts) s t r is same = absurd r
returned_snoc o (x ∷ ss) [] s t r is same = absurd r
returned_snoc o (x ∷ ss) (y ∷ ts) s t r is same = (r.0, r.1, returned_snoc o ss ts s t r.2 is same)

-- they can close the office
pub returned_ascending : (o : Office) (k : ℕ) (ss ts : List Session) → Ascending o k ss → Returned o ss ts → Ascending o k ts
returned_ascending o k [] [] a r = tt
returned_ascending o k [] (t ∷ ts) a r = absurd r
returned_ascending o k (s ∷ ss) [] a r = absurd r
returned_ascending o k (s ∷ ss) (t ∷ ts) a r = (r.0, subst (λ (m : ℕ). k ≤ m) (sym r.1) a.1, returned_ascending o (number_of t.view + 1) ss ts (subst (λ (m : ℕ). Ascending o (m + 1) ss) (sym r.1) a.2) r.2)

module _ {F : Type 0} (at : F → Stage) (stage : Stage) where
  pub at_last : (feeds : List F) (f : F) → AllAt at stage (feeds ++ f ∷ []) → AllAt at stage feeds × (at f ≡ stage)
  at_last [] f all = (tt, all.0)
  at_last (x ∷ feeds) f all = let t = at_last feeds f all.1 in ((all.0, t.0), t.1)

-- a monitor as it was
pub grew_none : (m : Monitor) (n : ℕ) → Grew m.start m.entries m.forgotten n m
grew_none m n = record { start = refl; forgotten = refl; begins = ([], append-nil m.entries); below = subst (AllBelow n) (sym (ap (λ (es : List Entry). drop (length m.entries) es) (sym (append-nil m.entries)) ∙ drop-append_seam m.entries [])) tt }

-- the same, of equal starts, journals and numbers of sessions
pub grew_as : {start first : State} {entries journal : List Entry} {lost forgotten n count : ℕ} {new : Monitor} → first ≡ start → journal ≡ entries → forgotten ≡ lost → count ≡ n
    → Grew first journal forgotten count new → Grew start entries lost n new
grew_as {start} {first} {entries} {journal} {lost} {forgotten} {n} {count} {new} p q l r old =
    subst (λ (b : State). Grew b entries lost n new) p (subst (λ (es : List Entry). Grew first es lost n new) q (subst (λ (k : ℕ). Grew first journal k n new) l (subst (λ (k : ℕ). Grew first journal forgotten k new) r old)))

-- what a closed office leaves whose journal lasts
pub grew : (o : Office) (ss : List Session) (new : Monitor) → o.charter.lasts ≡ true → Leaves o ss (journal_of new) → Grew (begun o.charter) (base o.charter) o.charter.forgotten o.charter.count new
grew o ss new last left = record { start = left.start; forgotten = left.lasts last; begins = left.begins; below = left.below }
