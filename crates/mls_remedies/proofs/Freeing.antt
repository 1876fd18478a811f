-- What the remedy of a get leads to.
use Rattle.std.proofs.Common.{◌≡◌, ℕ, ◌⊎◌, inl, inr, Bool, true, false, not, ◌&&◌, List, [], ◌∷◌, ◌++◌, All, cond, filter, map, if◌then◌else◌, refl, sym, ap, subst, ◌∙◌}
use Rattle.std.specs.FinSet as set
use Rattle.std.specs.List.{flat_map}
use Rattle.std.proofs.lemmas.Bool.{and_parts, and_from, false≢true}
use Rattle.std.proofs.lemmas.List.Elements.{All-append, All-cons, All-filter, All-head, All-nil, All-tail}
use Rattle.mls_labels.specs.Label.{Label}
use Rattle.mls_tables.specs.Held.{objects_of}
use Rattle.mls_tables.specs.Once.{accesses_at}
use Rattle.mls_tables.specs.Triples.{Triple}
use Rattle.mls_tables.specs.declared.mode.Mode.{Mode}
use Rattle.mls_tables.specs.declared.mode.Mode.TheVariants.{Execute, Read, Append, Write}
use Rattle.mls_requests.specs.declared.action.Action.TheVariants.{Get, SubjectLevel}
use Rattle.mls_requests.specs.declared.reply.Reply.TheVariants.{Yes, Undefined}
use Rattle.mls_state.specs.State.{State, is_subject, is_active}
use Rattle.mls_state.specs.Properties.{HasTree, is_known}
use Rattle.mls_rules.specs.Rules.{reply, after}
use Rattle.mls_explain.specs.Demands.{failing_at, meets}
use Rattle.mls_explain.specs.Remedy.{Helps, level_request}
use Rattle.mls_explain.specs.Trusting.{grants}
use Rattle.mls_explain.specs.Ways.{IsWay, freed_for, played, refused_at, release_request, releases_for}
use Rattle.mls_explain.specs.declared.demand.Demand.TheVariants.{StarAtLevel}
use Rattle.mls_explain.specs.declared.way.Way.{Way}
use Rattle.mls_explain.specs.declared.way.Way.TheVariants.{Level, Released, Never}
use Rattle.mls_remedies.specs.Gets.{IsBehind, IsJoined, IsOwn, joined, release_step, way_ending, way_steps}
use Rattle.mls_remedies.specs.Remedies.{IsLed}
use Rattle.mls_remedies.specs.Steps.{asks, are_open, is_open, may, own_step, taken}
use Rattle.mls_remedies.specs.declared.ending.Ending.{Ending}
use Rattle.mls_remedies.specs.declared.ending.Ending.TheVariants.{Asked, Instead, NoLevel, NoGiver, Nothing}
use Rattle.mls_remedies.specs.declared.step.Step.{Step}
use Rattle.mls_remedies.proofs.Steps.{led_as, one_open, open_append, own_open, taken_append}

module _ (v : State) (tree : HasTree v) where
  abbrev Active : Triple → Type 0
  Active t = is_active v t.1 ≡ true

  -- what is held is of active objects
  held_active : (xs : List Triple) → All Active (filter (set.contains v.accesses) xs)
  held_active [] = All-nil Active
  held_active (t ∷ xs) = from (held_active xs) (set.contains v.accesses t) refl where
    from : All Active (filter (set.contains v.accesses) xs) → (b : Bool) → set.contains v.accesses t ≡ b
        → All Active (cond b (t ∷ filter (set.contains v.accesses) xs) (filter (set.contains v.accesses) xs))
    from rest true held =
        All-cons Active t (filter (set.contains v.accesses) xs) (and_parts (is_subject v t.0) (is_active v t.1) (tree.accesses_known t held)).1
        rest
    from rest false free = rest

  pieces_active : (f : ℕ → List Triple) → ((o : ℕ) → All Active (f o)) → (os : List ℕ) → All Active (flat_map f os)
  pieces_active f all [] = All-nil Active
  pieces_active f all (o ∷ os) = All-append Active (f o) (flat_map f os) (all o) (pieces_active f all os)

  -- so is what star refuses
  refused_active : (s : ℕ) (l : Label) → All Active (refused_at v s l)
  refused_active s l =
      pieces_active (failing_at (StarAtLevel s l) v s)
      (λ o. All-filter (λ t. not (meets (StarAtLevel s l) v t)) Active (accesses_at v.accesses s o)
      (held_active ((s, o, Execute) ∷ (s, o, Read) ∷ (s, o, Append) ∷ (s, o, Write) ∷ []))) (objects_of v.accesses s)

one_released : (v : State) (s : ℕ) (t : Triple) → is_subject v s ≡ true → is_active v t.1 ≡ true
    → after v (release_request s t) ≡ record v { accesses = set.remove v.accesses (s, t.1, t.2) }
one_released v s t known active = rw (known, active) refl

release_granted : (v : State) (s : ℕ) (t : Triple) → is_subject v s ≡ true → is_active v t.1 ≡ true → grants (reply v (release_request s t)) ≡ true
release_granted v s t known active = rw (known, active) refl

-- releases are granted, one after the other
releases_open : (v : State) (s : ℕ) (ts : List Triple) → is_subject v s ≡ true → All (λ t. is_active v t.1 ≡ true) ts
    → are_open v (map (release_step s) ts) ≡ true
releases_open v s [] known active = refl
releases_open v s (t ∷ ts) known active =
    let here = All-head (λ u. is_active v u.1 ≡ true) t ts active in
    and_from (is_open v (release_step s t)) (are_open (after v (release_request s t)) (map (release_step s) ts))
    (release_granted v s t known here)
    (ap (λ w. are_open w (map (release_step s) ts)) (one_released v s t known here)
    ∙ releases_open (record v { accesses = set.remove v.accesses (s, t.1, t.2) }) s ts known (All-tail (λ u. is_active v u.1 ≡ true) t ts active))

-- they lead to the state that they are played to
releases_taken : (v : State) (s : ℕ) (ts : List Triple) → taken v (map (release_step s) ts) ≡ played v (map (release_request s) ts)
unfolding played
releases_taken v s [] = refl
releases_taken v s (t ∷ ts) = releases_taken (after v (release_request s t)) s ts

unknown_after : (v : State) (s : ℕ) (t : Triple) → is_subject v s ≡ false → after v (release_request s t) ≡ v
unknown_after v s t unknown = rw unknown refl

-- an unknown subject releases nothing
unknown_played : (v : State) (s : ℕ) (ts : List Triple) → is_subject v s ≡ false → played v (map (release_request s) ts) ≡ v
unfolding played
unknown_played v s [] unknown = refl
unknown_played v s (t ∷ ts) unknown =
    ap (λ w. played w (map (release_request s) ts)) (unknown_after v s t unknown) ∙ unknown_played v s ts unknown

unknown_level : (v : State) (s : ℕ) (l : Label) → is_subject v s ≡ false → reply v (level_request s l) ≡ Undefined
unknown_level v s l unknown = rw unknown refl

module _ (v : State) (s o : ℕ) (x : Mode) where
  -- a level that helps, behind steps
  level_led : (ways : List Step) (l : Label) → are_open v ways ≡ true → Helps (taken v ways) s o x l
      → IsLed v s (Get x o) (ways ++ own_step s (SubjectLevel l) ∷ []) Asked
  level_led ways l open_ helps = (
    open_append v ways (own_step s (SubjectLevel l) ∷ []) open_
        (one_open (taken v ways) (own_step s (SubjectLevel l)) (own_open (taken v ways) s (SubjectLevel l) (ap grants helps.level))),
    ap (λ w. may w (Get x o) s) (taken_append v ways (own_step s (SubjectLevel l) ∷ [])) ∙ ap grants helps.get,
  )

  released_led : (l : Label) → HasTree v → Helps (freed_for v s l) s o x l → (b : Bool) → is_subject v s ≡ b
      → IsLed v s (Get x o) (map (release_step s) (if b then refused_at v s l else []) ++ own_step s (SubjectLevel l) ∷ []) Asked
  released_led l tree helps true known =
      level_led (map (release_step s) (refused_at v s l)) l (releases_open v s (refused_at v s l) known (refused_active v tree s l))
      (subst (λ w. Helps w s o x l) (sym (releases_taken v s (refused_at v s l))) helps)
  released_led l tree helps false unknown =
      let same : reply v (level_request s l) ≡ Yes =
      ap (λ w. reply w (level_request s l)) (sym (unknown_played v s (refused_at v s l) unknown)) ∙ helps.level in
      absurd (undefined_yes (sym (unknown_level v s l unknown) ∙ same))
    where
      undefined_yes : Undefined ≡ Yes → ⊥
      undefined_yes e = cc

  way_led : HasTree v → (way : Way) → IsWay v s o x way → IsLed v s (Get x o) (way_steps v s way) (way_ending way)
  way_led tree (Level l) is = level_led [] l refl is.helps
  way_led tree (Released l) is = released_led l tree is.helps (is_subject v s) refl
  way_led tree Never is = refl

  -- the remedy of a get that is permitted
  pub own_led : (steps : List Step) (ending : Ending) → HasTree v → IsOwn v s o x steps ending → IsLed v s (Get x o) steps ending
  own_led steps ending tree own =
      led_as v s (Get x o) steps (way_steps v s own.way) ending (way_ending own.way) own.steps_are own.ending_is (way_led tree own.way own.is)

  pub behind_led : (b : Bool) (steps : List Step) (ending : Ending) → HasTree v → may v (Get x o) s ≡ b → IsBehind b v s o x steps ending
      → IsLed v s (Get x o) steps ending
  behind_led true steps ending tree is behind = led_as v s (Get x o) steps [] ending Asked behind.0 behind.1 (refl, is)
  behind_led false steps ending tree is behind = own_led steps ending tree behind

way_ends : (way : Way) → (way_ending way ≡ Asked) ⊎ (way_ending way ≡ NoLevel)
way_ends (Level l) = inl refl
way_ends (Released l) = inl refl
way_ends Never = inr refl

behind_ends : (v : State) (s o : ℕ) (x : Mode) (b : Bool) (rest : List Step) (ending : Ending) → IsBehind b v s o x rest ending
    → (ending ≡ Asked) ⊎ (ending ≡ NoLevel)
behind_ends v s o x true rest ending behind = inl behind.1
behind_ends v s o x false rest ending behind = elim (way_ends behind.way) [
  | inl asked ↦ inl (behind.ending_is ∙ asked)
  | inr none ↦ inr (behind.ending_is ∙ none)
]

-- the remedy behind a giving
pub joined_led : (v : State) (s o : ℕ) (x : Mode) (giving steps : List Step) (ending : Ending) → are_open v giving ≡ true → HasTree (taken v giving)
    → IsJoined (taken v giving) giving s o x steps ending → IsLed v s (Get x o) steps ending
joined_led v s o x giving steps ending open_ tree whole = from (behind_ends w s o x (may w (Get x o) s) whole.rest ending whole.behind) where
  w : State
  w = taken v giving

  led : IsLed w s (Get x o) whole.rest ending
  led = behind_led w s o x (may w (Get x o) s) whole.rest ending tree refl whole.behind

  from : (ending ≡ Asked) ⊎ (ending ≡ NoLevel) → IsLed v s (Get x o) steps ending
  from (inl asked) =
      let rest : IsLed w s (Get x o) whole.rest Asked = subst (λ e. IsLed w s (Get x o) whole.rest e) asked led in
      led_as v s (Get x o) steps (giving ++ whole.rest) ending Asked (whole.steps_are ∙ ap (λ e. joined e giving whole.rest) asked) asked
      (open_append v giving whole.rest open_ rest.0, ap (λ u. may u (Get x o) s) (taken_append v giving whole.rest) ∙ rest.1)
  from (inr none) =
      led_as v s (Get x o) steps [] ending NoLevel (whole.steps_are ∙ ap (λ e. joined e giving whole.rest) none) none refl
