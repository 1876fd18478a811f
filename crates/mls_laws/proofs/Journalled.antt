-- Journals of the start of the examples: an access with its reason, one that was ended, and one that System Z would grant.
use Rattle.std.proofs.Common.{◌≡◌, ℕ, zero, suc, ◌<◌, List, [], ◌∷◌, take, Some, refl, sym, ap, subst, ◌∙◌, arith}
use Rattle.std.specs.Prelude.{slice_get}
use Rattle.mls_tables.specs.declared.mode.Mode.TheVariants.{Read, Write}
use Rattle.mls_requests.specs.declared.action.Action.TheVariants.{Get, Release}
use Rattle.mls_requests.specs.declared.request.Request.{Request}
use Rattle.mls_requests.specs.declared.reason.Reason.TheVariants.{Discretionary}
use Rattle.mls_requests.specs.declared.reply.Reply.TheVariants.{Yes}
use Rattle.mls_requests.specs.declared.entry.Entry.{Entry}
use Rattle.mls_rules.specs.Rules.{reply}
use Rattle.mls_monitor.specs.Journal.{fold, IsAnswered, IsLegal}
use Rattle.mls_laws.specs.Provenance.{Ends, released, Provenance}
use Rattle.mls_laws.specs.SystemZ.{ShowsSystemZ}
use Rattle.mls_laws.specs.Examples.{ann_reads_plans, ann_releases_plans, bob_writes_plans, ann_read, ann_released}
use Rattle.mls_laws.proofs.ExampleStart.{start}
use Rattle.mls_laws.proofs.Replied.{reads_granted, releases_granted, bob_denied}
use Rattle.mls_laws.proofs.Lowered.{not_shown}

abbrev reads : Entry
reads = record { number = 0; session = 0; reply = Yes; request = ann_reads_plans }

abbrev releases : Entry
releases = record { number = 1; session = 0; reply = Yes; request = ann_releases_plans }

same_some : (e f : Entry) → Some e ≡ Some f → e ≡ f
same_some e f is = cc

first_answered : (rest : List Entry) → IsAnswered start (reads ∷ rest) 0 reads
first_answered rest = record { number = refl; reply = sym reads_granted }

second_answered : IsAnswered start ann_released 1 releases
second_answered = record { number = refl; reply = sym releases_granted }

pub read_legal : IsLegal start ann_read
read_legal zero e at = subst (IsAnswered start ann_read 0) (same_some reads e at) (first_answered [])
read_legal (suc n) e at = cc

pub released_legal : IsLegal start ann_released
released_legal zero e at = subst (IsAnswered start ann_released 0) (same_some reads e at) (first_answered (releases ∷ []))
released_legal (suc zero) e at = subst (IsAnswered start ann_released 1) (same_some releases e at) second_answered
released_legal (suc (suc n)) e at = cc

none_later : (n : ℕ) (e : Entry) → 0 < n → slice_get ann_read n ≡ Some e → Ends (fold start (take n ann_read)) e 0 1 Read → ⊥
none_later zero e past at ends = absurd (omega arith)
none_later (suc n) e past at ends = cc

pub read_reason : Provenance start ann_read 0 1 Read
read_reason = record { place = 0; entry = reads; there = refl; asked = refl; granted = refl; since = none_later }

not_a_get : ann_releases_plans ≡ ann_reads_plans → ⊥
not_a_get is = let same : Release Read 1 ≡ Get Read 1 = ap (λ (r : Request). r.action) is in cc

pub no_reason : Provenance start ann_released 0 1 Read → ⊥
no_reason p = at_place p.place p.entry p.there p.asked p.since where
  at_place : (place : ℕ) (e : Entry) → slice_get ann_released place ≡ Some e → e.request ≡ ann_reads_plans
      → ((n : ℕ) (f : Entry) → place < n → slice_get ann_released n ≡ Some f → Ends (fold start (take n ann_released)) f 0 1 Read → ⊥) → ⊥
  at_place zero e at asked since = since 1 releases (omega arith) refl (released refl refl)
  at_place (suc zero) e at asked since = not_a_get (ap (λ (f : Entry). f.request) (same_some releases e at) ∙ asked)
  at_place (suc (suc n)) e at asked since = cc

-- what bob is denied, System Z grants
pub not_z : (entries : List Entry) (e : Entry) → IsLegal start (e ∷ entries) → e.request ≡ bob_writes_plans → ShowsSystemZ start (e ∷ entries) → ⊥
not_z entries e legal asks shows =
    not_shown start (e ∷ entries) 0 e Write 1 Discretionary legal refl (ap (λ (r : Request). r.action) asks) (ap (reply start) asks ∙ bob_denied) shows
