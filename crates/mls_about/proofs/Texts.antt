-- What is told of a subject or an object, part by part.
use Rattle.std.proofs.Common.{◌≡◌, ℕ, ◌+◌, Bool, true, false, List, [], ◌∷◌, ◌++◌}
use Rattle.std.proofs.Common.{refl, sym, ap, ◌∙◌, append-nil, cond, filter}
use Rattle.std.proofs.lemmas.List.{append_assoc}
use Rattle.mls_facts.proofs.Gathered.{grows, range_flat_more}
use Rattle.mls_lines.specs.Names.{Names}
use Rattle.mls_rows.specs.declared.form.Form.{Form}
use Rattle.mls_state.specs.State.{State}
use Rattle.mls_tables.specs.Once.{accesses_at}
use Rattle.mls_tables.specs.Triples.{Triple, TripleSet}
use Rattle.mls_about.specs.Objects.{child_bytes, children_bytes, access_bytes, column_bytes}
use Rattle.mls_about.specs.Permissions.{where_so, permitted}

-- a list to which nothing is added yet
pub begins : {X : Type 0} (old part : List X) → part ≡ [] → old ≡ old ++ part
begins old part none = sym (append-nil old) ∙ ap (λ t. old ++ t) (sym none)

pub permitted_none : (v : State) (s : ℕ) → permitted v s 0 ≡ []
unfolding permitted
permitted_none v s = refl

pub permitted_more : (v : State) (s n : ℕ) → permitted v s (n + 1) ≡ permitted v s n ++ accesses_at v.matrix s n
unfolding permitted
permitted_more v s n = range_flat_more (accesses_at v.matrix s) n

pub children_none : (form : Form) (names : Names) (v : State) (o : ℕ) → children_bytes form names v o 0 ≡ []
unfolding children_bytes
children_none form names v o = refl

pub children_more : (form : Form) (names : Names) (v : State) (o n : ℕ)
    → children_bytes form names v o (n + 1) ≡ children_bytes form names v o n ++ child_bytes form names v o n
unfolding children_bytes
children_more form names v o n = range_flat_more (child_bytes form names v o) n

pub column_none : (form : Form) (names : Names) (b : TripleSet) (o : ℕ) → column_bytes form names b o 0 ≡ []
unfolding column_bytes
column_none form names b o = refl

pub column_more : (form : Form) (names : Names) (b : TripleSet) (o n : ℕ)
    → column_bytes form names b o (n + 1) ≡ column_bytes form names b o n ++ access_bytes form names b o n
unfolding column_bytes
column_more form names b o n = range_flat_more (access_bytes form names b o) n

-- rows of one part more, in the form of what was there
pub grows_in : (line : Form → List ℕ) (old now new part longer : List ℕ) (f g : Form) → f ≡ g → now ≡ old ++ part
    → new ≡ now ++ line f → longer ≡ part ++ line g → new ≡ old ++ longer
grows_in line old now new part longer f g same so_far added more =
    grows old now new part longer (line g) so_far (added ∙ ap (λ h. now ++ line h) same) more

module _ (p : Triple → Bool) where
  -- the first item, where it passes, and the others
  first : (t : Triple) (ts : List Triple) → filter p (t ∷ ts) ≡ where_so (p t) t ++ filter p ts
  first t ts = elim (p t) as (λ b. cond b (t ∷ filter p ts) (filter p ts) ≡ where_so b t ++ filter p ts) [
    | true ↦ refl
    | false ↦ refl
  ]

  four : (old : List Triple) (a b c d : Triple)
      → (((old ++ where_so (p a) a) ++ where_so (p b) b) ++ where_so (p c) c) ++ where_so (p d) d
      ≡ old ++ filter p (a ∷ b ∷ c ∷ d ∷ [])
  four old a b c d =
      let A = where_so (p a) a in
      let B = where_so (p b) b in
      let C = where_so (p c) c in
      let D = where_so (p d) d in
      append_assoc ((old ++ A) ++ B) C D ∙ append_assoc (old ++ A) B (C ++ D) ∙ append_assoc old A (B ++ (C ++ D))
      ∙ ap (λ t. old ++ t) (sym (first a (b ∷ c ∷ d ∷ [])
      ∙ ap (λ t. A ++ t) (first b (c ∷ d ∷ [])
      ∙ ap (λ t. B ++ t) (first c (d ∷ [])
      ∙ ap (λ t. C ++ t) (first d [] ∙ append-nil D)))))

  -- four triples, each where it is there
  pub four_pushed : (a b c d : Triple) (pa pb pc pd : Bool) (t0 t1 t2 t3 t4 : List Triple)
      → pa ≡ p a → pb ≡ p b → pc ≡ p c → pd ≡ p d
      → t1 ≡ t0 ++ where_so pa a → t2 ≡ t1 ++ where_so pb b → t3 ≡ t2 ++ where_so pc c → t4 ≡ t3 ++ where_so pd d
      → t4 ≡ t0 ++ filter p (a ∷ b ∷ c ∷ d ∷ [])
  four_pushed a b c d pa pb pc pd t0 t1 t2 t3 t4 ea eb ec ed e1 e2 e3 e4 =
      e4 ∙ ap (λ t. t ++ where_so pd d) (e3 ∙ ap (λ t. t ++ where_so pc c) (e2 ∙ ap (λ t. t ++ where_so pb b) e1))
      ∙ (λ i. (((t0 ++ where_so (ea i) a) ++ where_so (eb i) b) ++ where_so (ec i) c) ++ where_so (ed i) d)
      ∙ four t0 a b c d
