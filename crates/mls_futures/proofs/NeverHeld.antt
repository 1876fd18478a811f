-- No journal of actors has what the closure has not.
use Rattle.std.proofs.Common.{◌≡◌, ℕ, zero, suc, Bool, true, false, ◌⊎◌, inl, inr, List, [], ◌∷◌, ◌++◌, refl, sym, ap, ◌∙◌}
use Rattle.std.specs.FinSet as set
use Rattle.mls_tables.specs.Triples.{Triple}
use Rattle.mls_tables.specs.declared.mode.Mode.{Mode}
use Rattle.mls_requests.specs.declared.entry.Entry.{Entry}
use Rattle.mls_state.specs.State.{State}
use Rattle.mls_state.specs.Properties.{IsSecure}
use Rattle.mls_rules.specs.Rules.{after}
use Rattle.mls_rules.proofs.Laws.{after_secure}
use Rattle.mls_monitor.specs.Journal.{fold}
use Rattle.mls_laws.specs.Journals.{StaysActive}
use Rattle.mls_laws.proofs.Laws.{fold_secure, fold-append}
use Rattle.mls_futures.specs.Closure.{CouldGet}
use Rattle.mls_futures.specs.Futures.{IsByActors, AreReleases, HoldsNothing, CouldCome}
use Rattle.mls_futures.proofs.Changing.{after_accesses}
use Rattle.mls_futures.proofs.Shrinking.{shrinks, held_could, follows_actor, follows_release}

pub never_more : (v : State) (entries : List Entry) (acts : ℕ → Bool) (s o : ℕ) (x : Mode) → IsSecure v → IsByActors acts entries → StaysActive v entries o
    → CouldGet (fold v entries) acts s o x → CouldGet v acts s o x
never_more v [] acts s o x h by stays could = could
never_more v (e ∷ entries) acts s o x h by stays could =
    shrinks v (after v e.request) acts (follows_actor v e.request acts h (by zero e refl)) s o x
    (never_more (after v e.request) entries acts s o x (after_secure v e.request h) (λ n f at. by (suc n) f at) (λ n. stays (suc n)) could)
    (stays zero)

pub never_held : (v : State) (entries : List Entry) (acts : ℕ → Bool) (s o : ℕ) (x : Mode) → IsSecure v → IsByActors acts entries → StaysActive v entries o
    → acts s ≡ true → set.contains (fold v entries).accesses (s, o, x) ≡ true → CouldGet v acts s o x
never_held v entries acts s o x h by stays actor there =
    never_more v entries acts s o x h by stays (held_could (fold v entries) acts s o x (fold_secure v entries h) actor there)

releases_no_more : (v : State) (entries : List Entry) (acts : ℕ → Bool) (s o : ℕ) (x : Mode) → IsSecure v → AreReleases entries → StaysActive v entries o
    → CouldGet (fold v entries) acts s o x → CouldGet v acts s o x
releases_no_more v [] acts s o x h are stays could = could
releases_no_more v (e ∷ entries) acts s o x h are stays could =
    let first = are zero e refl in
    shrinks v (after v e.request) acts (follows_release v e.request acts first.0 first.1 h first.2) s o x
    (releases_no_more (after v e.request) entries acts s o x (after_secure v e.request h) (λ n f at. are (suc n) f at) (λ n. stays (suc n)) could)
    (stays zero)

-- what is there all along a journal is there all along its front, and all along the rest of it
stays_front : (v : State) (front rest : List Entry) (o : ℕ) → StaysActive v (front ++ rest) o → StaysActive v front o
stays_front v [] rest o stays zero = stays zero
stays_front v [] rest o stays (suc n) = stays zero
stays_front v (e ∷ front) rest o stays zero = stays zero
stays_front v (e ∷ front) rest o stays (suc n) = stays_front (after v e.request) front rest o (λ k. stays (suc k)) n

stays_rest : (v : State) (front rest : List Entry) (o : ℕ) → StaysActive v (front ++ rest) o → StaysActive (fold v front) rest o
stays_rest v [] rest o stays = stays
stays_rest v (e ∷ front) rest o stays = stays_rest (after v e.request) front rest o (λ k. stays (suc k))

-- all that is held is an actor's
abbrev ActorsHold : (ℕ → Bool) → State → Type 0
ActorsHold acts v = (t : Triple) → set.contains v.accesses t ≡ true → acts t.0 ≡ true

actors_hold : (v : State) (entries : List Entry) (acts : ℕ → Bool) → IsByActors acts entries → ActorsHold acts v → ActorsHold acts (fold v entries)
actors_hold v [] acts by h = h
actors_hold v (e ∷ entries) acts by h =
    actors_hold (after v e.request) entries acts (λ n f at. by (suc n) f at) (λ t there. from t (after_accesses v e.request t there)) where
      from : (t : Triple) → (set.contains v.accesses t ≡ true) ⊎ (t.0 ≡ e.request.subject) → acts t.0 ≡ true
      from t (inl was) = h t was
      from t (inr own) = ap acts own ∙ by zero e refl

none_holds : (acts : ℕ → Bool) (v : State) → HoldsNothing v → ActorsHold acts v
none_holds acts v nothing t there = let no : true ≡ false = sym there ∙ nothing t in cc

pub never_comes : (v : State) (acts : ℕ → Bool) (s o : ℕ) (x : Mode) → IsSecure v → CouldCome v acts s o x → CouldGet v acts s o x
never_comes v acts s o x h c =
    let w = fold v c.releases in
    let there : set.contains (fold w c.requests).accesses (s, o, x) ≡ true =
    ap (λ (u : State). set.contains u.accesses (s, o, x)) (sym (fold-append v c.releases c.requests)) ∙ c.held in
    let actor : acts s ≡ true = actors_hold w c.requests acts c.by_actors (none_holds acts w c.released) (s, o, x) there in
    releases_no_more v c.releases acts s o x h c.releasing (stays_front v c.releases c.requests o c.stays)
    (never_held w c.requests acts s o x (fold_secure v c.releases h) c.by_actors (stays_rest v c.releases c.requests o c.stays) actor there)
