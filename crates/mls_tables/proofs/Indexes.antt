-- What a change of both tables of lists makes of the relation that they tell.
use Rattle.std.specs.Prelude.{◌≡◌, ℕ, ◌<◌, Bool, true, false, not, ◌&&◌, ◌||◌, List, [], refl}
use Rattle.std.specs.List.{list_any}
use Rattle.std.proofs.Common.{◌⊎◌, inl, inr, ap, ◌∙◌, eqb, ltb}
use Rattle.std.proofs.lemmas.Bool.{eqb-true, or_cases, and_parts}
use Rattle.std.proofs.Math.Bool.{and_comm}
use Rattle.mls_facts.proofs.Ranges.{list_any-filter_range, filter_range_none}
use Rattle.mls_tables.specs.declared.limits.TheConstants.{MAX_SUBJECTS, MAX_OBJECTS}
use Rattle.mls_tables.specs.Rows.{listed, IsRows}
use Rattle.mls_tables.specs.Held.{Indexes}

-- a relation may be told in other words
pub IsRows-same : (p q : ℕ → ℕ → Bool) (n : ℕ) (lists : List (List ℕ)) → ((a b : ℕ) → p a b ≡ q a b) → IsRows p n lists → IsRows q n lists
IsRows-same p q n lists same rows a = rows a ∙ ap (λ r. listed r n) (λ i b. same a b i)

pub Indexes-same : (p q : ℕ → ℕ → Bool) (objects subjects : List (List ℕ)) → ((a b : ℕ) → p a b ≡ q a b) → Indexes p objects subjects → Indexes q objects subjects
Indexes-same p q objects subjects same h = record {
  within = λ a b there. h.within a b (same a b ∙ there);
  rows = IsRows-same p q MAX_OBJECTS objects same h.rows;
  columns = IsRows-same (λ o s. p s o) (λ o s. q s o) MAX_SUBJECTS subjects (λ a b. same b a) h.columns;
}

-- which numbers are listed
pub list_any-listed : (p : ℕ → Bool) (q n : ℕ) → list_any (eqb q) (listed p n) ≡ (p q && ltb q n)
unfolding listed
list_any-listed p q n = list_any-filter_range p q n

pub listed-none : (n : ℕ) (p : ℕ → Bool) → ((a : ℕ) → p a ≡ false) → listed p n ≡ []
unfolding listed
listed-none n p none = filter_range_none p 0 n (λ a low high. none a)

pub one_more : (p a e b : Bool) → ((p && not (a && b)) && not (e && b)) ≡ (p && not ((a || e) && b))
one_more true true e b = both e b where
  both : (e b : Bool) → (not b && not (e && b)) ≡ not b
  both e true = refl
  both true false = refl
  both false false = refl
one_more true false e b = refl
one_more false a e b = refl

-- a pair is added to both tables
pub Indexes-linked : (p : ℕ → ℕ → Bool) (s o : ℕ) (objects subjects objects' subjects' : List (List ℕ)) → s < MAX_SUBJECTS → o < MAX_OBJECTS → Indexes p objects subjects
    → IsRows (λ a b. (eqb a s && eqb b o) || p a b) MAX_OBJECTS objects' → IsRows (λ b a. (eqb b o && eqb a s) || p a b) MAX_SUBJECTS subjects'
    → Indexes (λ a b. (eqb a s && eqb b o) || p a b) objects' subjects'
Indexes-linked p s o objects subjects objects' subjects' subject object h rows columns = record {
  within = λ a b there. from a b (or_cases (eqb a s && eqb b o) (p a b) there);
  rows = rows;
  columns = IsRows-same _ _ MAX_SUBJECTS subjects' (λ b a. ap (λ e. e || p a b) (and_comm (eqb b o) (eqb a s))) columns;
} where
  from : (a b : ℕ) → ((eqb a s && eqb b o) ≡ true) ⊎ (p a b ≡ true) → (a < MAX_SUBJECTS) × (b < MAX_OBJECTS)
  from a b (inl own) = let parts = and_parts (eqb a s) (eqb b o) own in let first : a ≡ s = eqb-true a s parts.0 in let second : b ≡ o = eqb-true b o parts.1 in rw (first, second) (subject, object)
  from a b (inr known) = h.within a b known

-- a pair is taken out of both
pub Indexes-unlinked : (p : ℕ → ℕ → Bool) (s o : ℕ) (objects subjects objects' subjects' : List (List ℕ)) → Indexes p objects subjects
    → IsRows (λ a b. p a b && not (eqb a s && eqb b o)) MAX_OBJECTS objects' → IsRows (λ b a. p a b && not (eqb b o && eqb a s)) MAX_SUBJECTS subjects'
    → Indexes (λ a b. p a b && not (eqb a s && eqb b o)) objects' subjects'
Indexes-unlinked p s o objects subjects objects' subjects' h rows columns = record {
  within = λ a b there. h.within a b (and_parts (p a b) (not (eqb a s && eqb b o)) there).0;
  rows = rows;
  columns = IsRows-same _ _ MAX_SUBJECTS subjects' (λ b a. ap (λ e. p a b && not e) (and_comm (eqb b o) (eqb a s))) columns;
}
