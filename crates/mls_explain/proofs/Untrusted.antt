-- A state without the trust in a subject.
use Rattle.std.proofs.Common.{◌≡◌, ℕ, false, not, ◌&&◌, ◌||◌, nat_eq, Some, if◌then◌else◌, ap, ◌∙◌}
use Rattle.std.specs.FinMap as map
use Rattle.std.specs.FinSet as set
use Rattle.std.specs.Cmp.{nat_cmp_total, unsigned_tied, nat_eq_equiv}
use Rattle.mls_facts.proofs.Entries.{at_new}
use Rattle.mls_labels.specs.Label.{Label}
use Rattle.mls_tables.specs.declared.mode.Mode.{Mode}
use Rattle.mls_state.specs.State.{State}
use Rattle.mls_state.specs.Changes.{with_current, with_object_label}
use Rattle.mls_state.specs.Properties.{star_between, star_holds}
use Rattle.mls_rules.specs.Rules.{controls, may_relabel}
use Rattle.mls_explain.specs.Grounds.{control_ground, current_of, holdings_ground, plain_relabel_ground, relabel_ground}
use Rattle.mls_explain.specs.Grounds.{security_of, star_between_ground, star_ground}
use Rattle.mls_explain.specs.Trusting.{may_relabel_alone, untrusted}
use Rattle.mls_explain.specs.declared.ground.Ground.TheVariants.{Holdings, Trust}

-- whom it trusts
pub trusts : (v : State) (s q : ℕ) → set.contains (untrusted v s).trusted q ≡ (not (nat_eq q s) && set.contains v.trusted q)
trusts v s q = set.contains-remove nat_cmp_total v.trusted s q ∙ ap (λ i. not i && set.contains v.trusted q) (unsigned_tied q s)

-- not the subject
pub distrusts : (v : State) (s : ℕ) → set.contains (untrusted v s).trusted s ≡ false
distrusts v s = trusts v s s ∙ ap (λ i. not i && set.contains v.trusted s) (nat_eq_equiv.refl s)

-- each other one as before
pub trusts_others : (v : State) (s q : ℕ) → nat_eq q s ≡ false → set.contains (untrusted v s).trusted q ≡ set.contains v.trusted q
trusts_others v s q other = trusts v s q ∙ ap (λ i. not i && set.contains v.trusted q) other

-- star of the subject's own access at a current label, without the trust in it
pub star_at_level : (v : State) (s o : ℕ) (x : Mode) (l : Label)
    → star_holds (with_current (untrusted v s) s l) (s, o, x) ≡ star_between (Some l) (map.get v.object_label o) x
star_at_level v s o x l =
    ap (λ c. c || star_between (map.get (map.insert v.current s l) s) (map.get v.object_label o) x) (distrusts v s)
    ∙ ap (λ e. star_between e (map.get v.object_label o) x) (at_new v.current s l)

-- the same where an object has a label
pub star_at_label : (v : State) (s o : ℕ) (x : Mode) (changed : ℕ) (l : Label)
    → star_holds (with_object_label (untrusted v s) changed l) (s, o, x)
    ≡ star_between (map.get v.current s) (map.get (map.insert v.object_label changed l) o) x
star_at_label v s o x changed l =
    ap (λ c. c || star_between (map.get v.current s) (map.get (map.insert v.object_label changed l) o) x) (distrusts v s)

-- the same as it is
pub star_alone : (v : State) (s o : ℕ) (x : Mode) → star_holds (untrusted v s) (s, o, x) ≡ star_between (map.get v.current s) (map.get v.object_label o) x
star_alone v s o x = ap (λ c. c || star_between (map.get v.current s) (map.get v.object_label o) x) (distrusts v s)

-- what it rests on
pub ground_alone : (v : State) (s o : ℕ) (x : Mode) → star_ground (untrusted v s) s o x ≡ star_between_ground (current_of v s) (security_of v o) x
ground_alone v s o x = ap (λ c. if c then Trust s else star_between_ground (current_of v s) (security_of v o) x) (distrusts v s)

-- what star of all that the subject holds rests on
pub holdings_alone : (v : State) (s : ℕ) (l : Label) → holdings_ground (untrusted v s) s l ≡ Holdings s l
holdings_alone v s l = ap (λ c. if c then Trust s else Holdings s l) (distrusts v s)

-- the authority to give an object a label, and what it rests on
pub relabel_alone : (v : State) (s o : ℕ) (l : Label) → may_relabel (untrusted v s) s o l ≡ may_relabel_alone v s o l
relabel_alone v s o l = ap (λ c. c || may_relabel_alone v s o l) (distrusts v s)

pub relabel_ground_alone : (v : State) (s o : ℕ) (l : Label) → relabel_ground (untrusted v s) s o l ≡ plain_relabel_ground v s o l
relabel_ground_alone v s o l = ap (λ c. if c then Trust s else plain_relabel_ground v s o l) (distrusts v s)

-- the control of the root, and what it rests on
pub control_alone : (v : State) (s o : ℕ) → o ≡ 0 → controls (untrusted v s) s o ≡ false
control_alone v s o is = ap (controls (untrusted v s) s) is ∙ distrusts v s

pub control_ground_alone : (v : State) (s o : ℕ) → o ≡ 0 → control_ground (untrusted v s) s o ≡ Trust s
control_ground_alone v s o is = ap (control_ground (untrusted v s) s) is

-- star of an access of another subject, as it is
pub others_at_level : (v : State) (s : ℕ) (l : Label) (q o : ℕ) (x : Mode) → nat_eq q s ≡ false
    → star_holds (with_current (untrusted v s) s l) (q, o, x) ≡ star_holds (with_current v s l) (q, o, x)
others_at_level v s l q o x other =
    ap (λ c. c || star_between (map.get (map.insert v.current s l) q) (map.get v.object_label o) x) (trusts_others v s q other)

pub others_at_label : (v : State) (s : ℕ) (changed : ℕ) (l : Label) (q o : ℕ) (x : Mode) → nat_eq q s ≡ false
    → star_holds (with_object_label (untrusted v s) changed l) (q, o, x) ≡ star_holds (with_object_label v changed l) (q, o, x)
others_at_label v s changed l q o x other =
    ap (λ c. c || star_between (map.get v.current q) (map.get (map.insert v.object_label changed l) o) x) (trusts_others v s q other)
