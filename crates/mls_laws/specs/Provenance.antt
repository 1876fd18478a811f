-- Why an access is held: the entry that granted it, and the entries that would have ended it.
use Rattle.std.specs.Prelude.{◌≡◌, ◌<◌, ℕ, List, slice_get, take, Some}
use Rattle.mls_tables.specs.declared.mode.Mode.{Mode}
use Rattle.mls_tree.specs.Tree.{Reaches}
use Rattle.mls_requests.specs.declared.action.Action.TheVariants.{Get, Release, Give, Rescind, Delete}
use Rattle.mls_requests.specs.declared.reply.Reply.TheVariants.{Yes}
use Rattle.mls_requests.specs.declared.entry.Entry.{Entry}
use Rattle.mls_state.specs.State.{State}
use Rattle.mls_monitor.specs.Journal.{fold}

-- No entry is a granted give of this permission: to the subject, for the object in the mode. (own)
abbrev pub NeverGives : List Entry → ℕ → ℕ → Mode → Type 0
NeverGives entries s o x = (n : ℕ) (e : Entry) → slice_get entries n ≡ Some e → e.request.action ≡ Give x s o
    → e.reply ≡ Yes → ⊥

-- An entry, made in a state, ends an access of a subject to an object in a mode. It was granted, and it is the
-- subject's own release of the access, or anybody's rescission of it, or the deletion of an object that the access's
-- object reaches by parents. (own, after MTR-2997's rules to release, to rescind and to delete)
pub data Ends (v : State) (e : Entry) (s o : ℕ) (x : Mode) : Type 0 where
  released : e.reply ≡ Yes → e.request ≡ record { subject = s; action = Release x o } → Ends v e s o x
  rescinded : e.reply ≡ Yes → e.request.action ≡ Rescind x s o → Ends v e s o x
  deleted : (q : ℕ) → e.reply ≡ Yes → e.request.action ≡ Delete q → Reaches v.parent o q → Ends v e s o x

-- No entry ends the access, each taken in the state that those before it led to. (own)
abbrev pub NeverEnds : State → List Entry → ℕ → ℕ → Mode → Type 0
NeverEnds v entries s o x = (n : ℕ) (e : Entry) → slice_get entries n ≡ Some e
    → Ends (fold v (take n entries)) e s o x → ⊥

-- Provenance: the journal has an entry by which the subject was granted the access, and no entry after it ends the
-- access. (own)
pub record Provenance (v : State) (entries : List Entry) (s o : ℕ) (x : Mode) : Type 0 where
  pub place : ℕ
  pub entry : Entry
  pub there : slice_get entries place ≡ Some entry
  pub asked : entry.request ≡ record { subject = s; action = Get x o }
  pub granted : entry.reply ≡ Yes
  pub since : (n : ℕ) (e : Entry) → place < n → slice_get entries n ≡ Some e
      → Ends (fold v (take n entries)) e s o x → ⊥
