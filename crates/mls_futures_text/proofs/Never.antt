-- What never comes about.
use Rattle.std.proofs.Common.{◌≡◌, ℕ, Bool, true, false, List, refl}
use Rattle.std.specs.FinSet as set
use Rattle.mls_tables.specs.declared.mode.Mode.{Mode}
use Rattle.mls_requests.specs.declared.entry.Entry.{Entry}
use Rattle.mls_state.specs.State.{State}
use Rattle.mls_monitor.specs.Journal.{fold}
use Rattle.mls_laws.specs.Journals.{StaysActive}
use Rattle.mls_futures.specs.Closure.{CouldGet}
use Rattle.mls_futures.specs.Futures.{IsByActors, CouldCome}
use Rattle.mls_could.specs.Foreseeing.{NeverComes}

-- what the closure hasn't never comes about
pub never : (v : State) (acts : ℕ → Bool) (s o : ℕ) (x : Mode) → (CouldCome v acts s o x → CouldGet v acts s o x)
    → ((entries : List Entry) → IsByActors acts entries → StaysActive v entries o → acts s ≡ true → set.contains (fold v entries).accesses (s, o, x) ≡ true → CouldGet v acts s o x)
    → (CouldGet v acts s o x → ⊥) → NeverComes v acts (s, o, x)
never v acts s o x comes held nobody = record {
  released = λ come. nobody (comes come);
  held = λ entries by stays actor. from entries by stays actor (set.contains (fold v entries).accesses (s, o, x)) refl;
} where
  from : (entries : List Entry) → IsByActors acts entries → StaysActive v entries o → acts s ≡ true → (c : Bool) → set.contains (fold v entries).accesses (s, o, x) ≡ c
      → set.contains (fold v entries).accesses (s, o, x) ≡ false
  from entries by stays actor true is = absurd (nobody (held entries by stays actor is))
  from entries by stays actor false is = is
