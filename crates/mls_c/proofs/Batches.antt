-- Batches: replies that are put one after the other, and what they say in a state.
use Rattle.std.proofs.Common.{◌≡◌, ℕ, ◌+◌, ◌<◌, ◌&&◌, cond, List, [], ◌∷◌, ◌++◌, length, take, get_or, set, refl, sym, ap, subst, ◌∙◌, Option, Some, None, option_map, is_some, IfSome}
use Rattle.std.specs.List.{list_all}
use Rattle.std.proofs.lemmas.List.{get_or_default, take_more_set}
use Rattle.std.proofs.lemmas.Option.{none-some, same_Some}
use Rattle.mls_facts.proofs.Entries.{at_new}
use Rattle.mls_labels.specs.Label.{Label, has_label}
use Rattle.mls_requests.specs.declared.reply.Reply.TheVariants.{Yes, Undefined}
use Rattle.mls_rules.specs.Rules.{first_failing, reply_unless}
use Rattle.mls_start_text.specs.Each.{having, each_of}
use Rattle.mls_start_text.proofs.Laws.{own_fold_more, own_lack}
use Rattle.mls_state.specs.State.{State, is_subject}
use Rattle.mls_state.specs.declared.subject.Subject.{Subject}
use Rattle.mls_tables.specs.declared.mode.Mode.{Mode}
use Rattle.mls_c.specs.Answers.{number_of_reply}
use Rattle.mls_c.specs.Batches.{AreLabelReplies, IsSubjectAs, Stands, are_labels, pair_number, pairs_status, reply_by, standing_reply, subject_conditions}
use Rattle.mls_c.specs.LabelAsking.{IsLabelReply, access_of, label_conditions, label_reply}
use Rattle.mls_c.specs.Labels.{label_of}
use Rattle.mls_c.specs.Requests.{mode_at}
use Rattle.mls_c.specs.declared.batch.LabelPair.{LabelPair}
use Rattle.mls_c.specs.declared.label_access.LabelAccess.{LabelAccess}
use Rattle.mls_c.specs.declared.standing.Standing.{Standing}
use Rattle.mls_c.specs.declared.status.TheConstants.{OK, EINVAL}

same_option : {B : Type 0} (o : Option B) → option_map (λ b. b) o ≡ o
same_option None = refl
same_option (Some b) = refl

-- one reply more
pub reply_more : {A : Type 0} (f : A → Option ℕ) (xs : List A) (now : List ℕ) (k : ℕ) (d : A) (n : ℕ) → k < length xs → k < length now → f (get_or xs k d) ≡ Some n
    → each_of f (take k xs) ≡ Some (take k now) → each_of f (take (k + 1) xs) ≡ Some (take (k + 1) (set now k n))
reply_more f xs now k d n within room found before =
    let x = get_or xs k d in
    sym (same_option (each_of f (take (k + 1) xs)))
    ∙ own_fold_more f (λ ys. ys) (λ ys y. ys ++ y ∷ []) (λ ys y. refl) xs k x (take k now) (take (k + 1) (set now k n)) within (get_or_default xs k d x within)
    (ap (option_map (λ y. take k now ++ y ∷ [])) found ∙ ap (λ ys. Some ys) (sym (take_more_set now k n room)))
    (same_option (each_of f (take k xs)) ∙ before)

-- an item of which there is no reply
pub none_at : {A : Type 0} (f : A → Option ℕ) (xs : List A) (k : ℕ) (d : A) → k < length xs → f (get_or xs k d) ≡ None → each_of f xs ≡ None
none_at f xs k d within none = own_lack f xs k (get_or xs k d) within (get_or_default xs k d (get_or xs k d) within) none

both_found : {A B C D : Type 0} (o : Option A) (q : Option B) (h : A → B → C) (g : C → D) → is_some (option_map g (having o (λ a. having q (λ b. Some (h a b))))) ≡ (is_some o && is_some q)
both_found None q h g = refl
both_found (Some a) None h g = refl
both_found (Some a) (Some b) h g = refl

joined_found : {B : Type 0} (o : Option B) (q : Option (List B)) → is_some (having o (λ b. having q (λ more. Some (b ∷ more)))) ≡ (is_some o && is_some q)
joined_found None q = refl
joined_found (Some b) None = refl
joined_found (Some b) (Some more) = refl

abbrev made : ℕ → Mode → Label → Label → LabelAccess
made s x l i = record { subject = s; mode = x; security = l; integrity = i }

-- a pair has a number where its numbers are labels'
pair_found : (t : Standing) (s m : ℕ) (x : Mode) → mode_at m ≡ Some x → (p : LabelPair) → is_some (pair_number t s m p) ≡ are_labels p
pair_found t s m x is p =
    ap (λ o. is_some (option_map (λ a. number_of_reply (standing_reply t a)) (having o (λ y. having (label_of p.security) (λ l. having (label_of p.integrity) (λ i. Some (made s y l i))))))) is
    ∙ both_found (label_of p.security) (label_of p.integrity) (made s x) (λ a. number_of_reply (standing_reply t a))

all_found : (t : Standing) (s m : ℕ) (x : Mode) → mode_at m ≡ Some x → (ps : List LabelPair) → is_some (each_of (pair_number t s m) ps) ≡ list_all are_labels ps
all_found t s m x is [] = refl
all_found t s m x is (p ∷ ps) =
    joined_found (pair_number t s m p) (each_of (pair_number t s m) ps)
    ∙ ap (λ b. b && is_some (each_of (pair_number t s m) ps)) (pair_found t s m x is p)
    ∙ ap (λ b. are_labels p && b) (all_found t s m x is ps)

-- the status, where the mode is known
status_by : (t : Standing) (s m : ℕ) (x : Mode) → mode_at m ≡ Some x → (ps : List LabelPair) → pairs_status m ps ≡ cond (is_some (each_of (pair_number t s m) ps)) OK EINVAL
status_by t s m x is ps =
    ap (λ o. cond (is_some o && list_all are_labels ps) OK EINVAL) is ∙ ap (λ b. cond b OK EINVAL) (sym (all_found t s m x is ps))

pub status_done : (t : Standing) (s m : ℕ) (x : Mode) (ps : List LabelPair) (ns : List ℕ) → mode_at m ≡ Some x → each_of (pair_number t s m) ps ≡ Some ns → OK ≡ pairs_status m ps
status_done t s m x ps ns is found = sym (status_by t s m x is ps ∙ ap (λ o. cond (is_some o) OK EINVAL) found)

pub status_refused : (t : Standing) (s m : ℕ) (x : Mode) (ps : List LabelPair) → mode_at m ≡ Some x → each_of (pair_number t s m) ps ≡ None → EINVAL ≡ pairs_status m ps
status_refused t s m x ps is none = sym (status_by t s m x is ps ∙ ap (λ o. cond (is_some o) OK EINVAL) none)

pub status_of_no_mode : (m : ℕ) (ps : List LabelPair) → mode_at m ≡ None → EINVAL ≡ pairs_status m ps
status_of_no_mode m ps is = sym (ap (λ o. cond (is_some o && list_all are_labels ps) OK EINVAL) is)

conditions_as : (v : State) (a : LabelAccess) (p : Subject) → IsSubjectAs v a.subject p → label_conditions v a ≡ subject_conditions p a
conditions_as v a p is =
    rw (is.maximum, is.current, is.integrity, is.trusted, at_new v.object_label 0 a.security, at_new v.object_integrity 0 a.integrity) refl

by_subject : (v : State) (a : LabelAccess) (o : Option Subject) → is_some o ≡ is_subject v a.subject → IfSome o (IsSubjectAs v a.subject)
    → label_reply v a ≡ reply_by o v.security v.integrity a
by_subject v a None known is =
    let said = reply_unless (first_failing (label_conditions v a)) Yes in
    ap (λ b. cond (b && (has_label v.security a.security && has_label v.integrity a.integrity)) said Undefined) (sym known)
by_subject v a (Some p) known is =
    let said = reply_unless (first_failing (label_conditions v a)) Yes in
    ap (λ b. cond (b && (has_label v.security a.security && has_label v.integrity a.integrity)) said Undefined) (sym known)
    ∙ ap (λ cs. cond (has_label v.security a.security && has_label v.integrity a.integrity) (reply_unless (first_failing cs) Yes) Undefined) (conditions_as v a p is)

-- what a standing says is what its state says
stands_reply : (v : State) (t : Standing) (a : LabelAccess) → Stands v a.subject t → label_reply v a ≡ standing_reply t a
stands_reply v t a stands =
    by_subject v a t.subject stands.known stands.subject
    ∙ ap (λ b. reply_by t.subject b v.integrity a) (sym stands.security)
    ∙ ap (λ b. reply_by t.subject t.security b a) (sym stands.integrity)

parts_said : (v : State) (s : ℕ) (t : Standing) → Stands v s t → (o : Option Mode) (k j : Option Label) (n : ℕ)
    → option_map (λ a. number_of_reply (standing_reply t a)) (having o (λ x. having k (λ l. having j (λ i. Some (made s x l i))))) ≡ Some n
    → IsLabelReply v (having o (λ x. having k (λ l. having j (λ i. Some (made s x l i))))) n
parts_said v s t stands None k j n is = absurd (none-some n is)
parts_said v s t stands (Some x) None j n is = absurd (none-some n is)
parts_said v s t stands (Some x) (Some l) None n is = absurd (none-some n is)
parts_said v s t stands (Some x) (Some l) (Some i) n is =
    sym (same_Some (number_of_reply (standing_reply t (made s x l i))) n is) ∙ ap number_of_reply (sym (stands_reply v t (made s x l i) stands))

module _ (v : State) (s m : ℕ) (t : Standing) (stands : Stands v s t) where
  pair_said : (p : LabelPair) (n : ℕ) → pair_number t s m p ≡ Some n → IsLabelReply v (access_of s m p.security p.integrity) n
  pair_said p n is = parts_said v s t stands (mode_at m) (label_of p.security) (label_of p.integrity) n is

  joined_said : (p : LabelPair) (ps : List LabelPair) (ns : List ℕ) (o : Option ℕ) (q : Option (List ℕ)) → having o (λ b. having q (λ more. Some (b ∷ more))) ≡ Some ns
      → ((n : ℕ) → o ≡ Some n → IsLabelReply v (access_of s m p.security p.integrity) n) → ((ms : List ℕ) → q ≡ Some ms → AreLabelReplies v s m ps ms) → AreLabelReplies v s m (p ∷ ps) ns
  joined_said p ps ns None q is first rest = absurd (none-some ns is)
  joined_said p ps ns (Some b) None is first rest = absurd (none-some ns is)
  joined_said p ps ns (Some b) (Some ms) is first rest =
      let R : List ℕ → Type 0 = AreLabelReplies v s m (p ∷ ps) in subst R (same_Some (b ∷ ms) ns is) (first b refl, rest ms refl)

  -- the replies of a batch are those of its pairs, each in its place
  pub all_said : (ps : List LabelPair) (ns : List ℕ) → each_of (pair_number t s m) ps ≡ Some ns → AreLabelReplies v s m ps ns
  all_said [] ns is = let R : List ℕ → Type 0 = AreLabelReplies v s m [] in subst R (same_Some [] ns is) tt
  all_said (p ∷ ps) ns is = joined_said p ps ns (pair_number t s m p) (each_of (pair_number t s m) ps) is (pair_said p) (all_said ps)
