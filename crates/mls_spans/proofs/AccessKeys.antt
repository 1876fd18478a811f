-- The numbers of accesses, by which their uses are kept.
use Rattle.std.proofs.Common.{◌≡◌, ℕ, ◌<◌, Bool, true, false, cond, Option, Some, refl, sym, ap, ◌∙◌, arith, eqb}
use Rattle.std.specs.Prelude.{◌&&◌}
use Rattle.std.specs.BTreeMap.{BTreeMap, get}
use Rattle.std.specs.Cmp.{both_ways, unsigned_tied}
use Rattle.std.specs.Ordering.{nat_cmp, is_eq}
use Rattle.std.proofs.lemmas.Bool.{eqb-true, eq-eqb, and_from}
use Rattle.mls_tables.proofs.Laws.{is_triple-true}
use Rattle.mls_tables.specs.Mode.{mode_number}
use Rattle.mls_tables.specs.Triples.{Triple, is_triple}
use Rattle.mls_tables.specs.declared.mode.Mode.{Mode}
use Rattle.mls_tables.specs.declared.mode.Mode.TheVariants.{Execute, Read, Append, Write}
use Rattle.mls_spans.specs.Kept.{key_of, kept}
use Rattle.mls_spans.specs.declared.tally.Tally.{Tally}
use Rattle.mls_spans.specs.declared.uses.Uses.{Uses}

mode_below : (x : Mode) → mode_number x < 4
mode_below Execute = omega arith
mode_below Read = omega arith
mode_below Append = omega arith
mode_below Write = omega arith

-- accesses with one number are one
one_access : (t u : Triple) → t.1 < 65536 → u.1 < 65536 → key_of t ≡ key_of u → is_triple t u ≡ true
one_access t u lt lu same =
    let mt : mode_number t.2 < 4 = mode_below t.2 in
    let mu : mode_number u.2 < 4 = mode_below u.2 in
    let subject : t.0 ≡ u.0 = omega (arith, same, lt, lu, mt, mu) in
    let object : t.1 ≡ u.1 = omega (arith, same, lt, lu, mt, mu) in
    let mode : mode_number t.2 ≡ mode_number u.2 = omega (arith, same, lt, lu, mt, mu) in
    and_from (eqb t.0 u.0) (eqb t.1 u.1 && eqb (mode_number t.2) (mode_number u.2)) (eq-eqb t.0 u.0 subject)
    (and_from (eqb t.1 u.1) (eqb (mode_number t.2) (mode_number u.2)) (eq-eqb t.1 u.1 object)
    (eq-eqb (mode_number t.2) (mode_number u.2) mode))

one_key : (t u : Triple) → t.1 < 65536 → u.1 < 65536 → eqb (key_of u) (key_of t) ≡ is_triple t u
one_key t u lt lu = both_ways (eqb (key_of u) (key_of t)) (is_triple t u) there back where
  there : eqb (key_of u) (key_of t) ≡ true → is_triple t u ≡ true
  there is = one_access t u lt lu (sym (eqb-true (key_of u) (key_of t) is))

  back : is_triple t u ≡ true → eqb (key_of u) (key_of t) ≡ true
  back is = eq-eqb (key_of u) (key_of t) (ap key_of (sym (is_triple-true t u is)))

-- what is kept once something is put at the number of an access
pub put_kept : (old new : BTreeMap ℕ Uses) (k : ℕ) (a : Triple) (u : Uses) → k ≡ key_of a → a.1 < 65536
    → ((q : ℕ) → get nat_cmp new q ≡ cond (is_eq (nat_cmp k q)) (Some u) (get nat_cmp old q))
    → (t : Triple) → t.1 < 65536 → get nat_cmp new (key_of t) ≡ cond (is_triple t a) (Some u) (get nat_cmp old (key_of t))
put_kept old new k a u is la each t lt =
    each (key_of t)
    ∙ ap (λ b. cond b (Some u) (get nat_cmp old (key_of t)))
    (ap (λ j. is_eq (nat_cmp j (key_of t))) is ∙ unsigned_tied (key_of a) (key_of t) ∙ one_key t a lt la)

-- what is put at an access is put at each that is the same
pub put_same : (m : Tally) (t a : Triple) (f : Option Uses → Option Uses)
    → cond (is_triple t a) (f (kept m a)) (kept m t) ≡ cond (is_triple t a) (f (kept m t)) (kept m t)
put_same m t a f = from (is_triple t a) refl where
  from : (b : Bool) → is_triple t a ≡ b → cond b (f (kept m a)) (kept m t) ≡ cond b (f (kept m t)) (kept m t)
  from true is = ap (λ k. f (kept m k)) (sym (is_triple-true t a is))
  from false is = refl
