-- Ways among the places that were found are shortest ways over the closure.
use Rattle.std.proofs.Common.{◌≡◌, ℕ, suc, ◌+◌, ◌-◌, ◌<◌, ◌≤◌, Bool, true, false, nat_lt, List, [], ◌∷◌, ◌++◌, get_or, Option, Some, None, is_some, refl, sym, ap, subst, ◌∙◌, arith}
use Rattle.std.specs.Prelude.{IfNone, IfSome, option_map, if◌then◌else◌}
use Rattle.std.specs.FinMap as map
use Rattle.std.proofs.lemmas.Bool.{and_parts}
use Rattle.std.proofs.lemmas.Bool.Decides.{nat_tests}
use Rattle.mls_labels.specs.Label.{Label}
use Rattle.mls_tables.specs.declared.limits.TheConstants.{MAX_SUBJECTS, MAX_OBJECTS}
use Rattle.mls_requests.specs.declared.request.Request.{Request}
use Rattle.mls_lines.specs.Names.{Names}
use Rattle.mls_state.specs.State.{State, is_subject, is_active, is_above}
use Rattle.mls_state.specs.Properties.{HasTree, HasWholeTables}
use Rattle.mls_futures.proofs.Laws.{got_qualifies}
use Rattle.mls_flows.specs.Reaching.{CouldReach, here as is_here, seen, altered, handed}
use Rattle.mls_flows.specs.declared.place.Place.{Place}
use Rattle.mls_flows.specs.declared.place.Place.TheVariants.{Subject, Object}
use Rattle.mls_paths.specs.Found.{ComesIn, here, on, IsFlow, IsThere}
use Rattle.mls_paths.specs.Hands.{IsHand, has_room}
use Rattle.mls_paths.specs.Numbering.{place_of}
use Rattle.mls_paths.specs.Ways.{LeadsOn, IsShortest, IsWayTo}
use Rattle.mls_paths.specs.declared.numbering.TheConstants.{PLACES}
use Rattle.mls_paths.specs.declared.reached.Hand.{Hand}
use Rattle.mls_paths.specs.declared.reached.Hop.{Hop}
use Rattle.mls_paths.specs.declared.reached.Reached.{Reached}
use Rattle.mls_paths.proofs.Laws.{found_exact}
use Rattle.mls_rows.specs.Rows.{bytes_of, form_of}
use Rattle.mls_rows.specs.declared.form.Form.{Form}
use Rattle.mls_rows.specs.declared.output.Output.{Output}
use Rattle.mls_flow_text.specs.Endings.{full_bytes}
use Rattle.mls_shared_rows.specs.Requests.{requests_bytes}
use Rattle.mls_flow_text.specs.Flows.{IsWay, DoesWay, RowsOfActive, RowsOfActiveTo}
use Rattle.mls_flow_text.specs.Routes.{way_or_never}
use Rattle.mls_flow_text.specs.Ways.{IsFound, AreFound}
use Rattle.mls_flow_text.specs.declared.visiting.Written.{Written}

-- content comes along hops
leads_comes : (R : Place → Hand → Place → Type 0) (from q p : Place) (hops : List Hop) → LeadsOn R q hops p → (n : ℕ) → ComesIn R from n q
    → (m : ℕ) × ComesIn R from m p
leads_comes R from q p [] same n comes = (n, subst (ComesIn R from n) same comes)
leads_comes R from q p (hop ∷ hops) leads n comes = leads_comes R from hop.place p hops leads.1 (suc n) (on n q hop.place hop.hand leads.0 comes)

-- a way among the places that were found, or that there is none, is one over the closure
pub is_way : (v : State) (acts : ℕ → Bool) (from : ℕ) (found : List Reached) → IsFlow (IsHand v acts (has_room v)) (Object from) found → (p : Place)
    (way : Option (List Hop)) → IsFound found p way → IsWay v acts from p way
is_way v acts from found flow p None none = λ reach. none ((found_exact v acts (has_room v) (Object from) found flow p).1 reach)
is_way v acts from found flow p (Some hops) way =
    let shortest = way v acts (has_room v) (Object from) flow in
    let comes = leads_comes (IsHand v acts (has_room v)) (Object from) (Object from) p hops shortest.leads 0 here in
    let listed = flow.all comes.0 p comes.1 in (
      (found_exact v acts (has_room v) (Object from) found flow p).0 (record { index = listed.index; item = listed.item; at = listed.at; is = listed.is }),
      shortest,
    )

-- what is dominated is there
below_there : (a b : Option Label) → is_above a b ≡ true → is_some b ≡ true
below_there (Some a) (Some b) above = refl
below_there (Some a) None above = cc
below_there None b above = cc

-- numbers of places
subject_number : (s : ℕ) → s < MAX_SUBJECTS → place_of s ≡ Subject s
subject_number s low =
    let is : nat_lt s MAX_SUBJECTS ≡ true = grind (arith, nat_tests, low) in ap (λ b. if b then Subject s else Object (s - MAX_SUBJECTS)) is

object_number : (o : ℕ) → place_of (MAX_SUBJECTS + o) ≡ Object o
object_number o =
    let is : nat_lt (MAX_SUBJECTS + o) MAX_SUBJECTS ≡ false = grind (arith, nat_tests) in
    let same : MAX_SUBJECTS + o - MAX_SUBJECTS ≡ o = omega arith in
    ap (λ b. if b then Subject (MAX_SUBJECTS + o) else Object (MAX_SUBJECTS + o - MAX_SUBJECTS)) is ∙ ap Object same

-- each place that content could reach has one
module _ (v : State) (acts : ℕ → Bool) (count : ℕ) (h : HasTree v) (whole : HasWholeTables v) (known : (s : ℕ) → is_subject v s ≡ nat_lt s count)
    (few : count ≤ MAX_SUBJECTS) where
  subject_there : (s : ℕ) → is_subject v s ≡ true → (n : ℕ) × (n < PLACES) × (place_of n ≡ Subject s)
  subject_there s is =
      let below : nat_lt s count ≡ true = sym (known s) ∙ is in
      let low : s < count = grind (arith, nat_tests, below) in
      let least : s < MAX_SUBJECTS = omega (arith, low, few) in
      (s, omega (arith, least), subject_number s least)

  object_there : (o : ℕ) → is_active v o ≡ true → (n : ℕ) × (n < PLACES) × (place_of n ≡ Object o)
  object_there o active =
      let low : o < MAX_OBJECTS = h.objects.below o active in
      (MAX_SUBJECTS + o, omega (arith, low), object_number o)

  pub reach_number : (from : ℕ) → is_active v from ≡ true → (room : Bool) (p : Place) → CouldReach v acts room (Object from) p
      → (n : ℕ) × (n < PLACES) × (place_of n ≡ p)
  reach_number from active room p is_here = object_there from active
  reach_number from active room p (seen s o x observes could rest) =
      subject_there s ((and_parts (is_subject v s) (is_active v o) ((got_qualifies v acts s o x could).known)).0)
  reach_number from active room p (altered s o x alters could rest) =
      object_there o ((and_parts (is_subject v s) (is_active v o) ((got_qualifies v acts s o x could).known)).1)
  reach_number from active room p (handed s t free hand rest) =
      subject_there t (sym (whole.subject_integrity t) ∙ below_there (map.get v.subject_integrity s) (map.get v.subject_integrity t) hand.lower)

-- the rows of all ways
pub rows_active : (names : Names) (form : Form) (v : State) (acts : ℕ → Bool) (from : ℕ) (found : List Reached) (written : Written) (bytes : List ℕ)
    → IsFlow (IsHand v acts (has_room v)) (Object from) found → AreFound names form v from found PLACES written
    → ((p : Place) → CouldReach v acts (has_room v) (Object from) p → (n : ℕ) × (n < PLACES) × (place_of n ≡ p))
    → bytes ≡ bytes_of written.output ++ full_bytes (form_of written.output) v → RowsOfActive names v acts from form bytes written.any
rows_active names form v acts from found written bytes flow are numbered both = record {
  ways = are.ways;
  all = are.all;
  each = λ k d low. is_way v acts from found flow (get_or are.ways k d).0 (get_or are.ways k d).1 (are.each k d low);
  numbered = numbered;
  bytes = both ∙ (λ i. are.bytes i ++ full_bytes (are.in_form i) v);
  some = are.any;
}

-- a way that was looked up, or none
pub found_way : {V : Type 0} (found : List Reached) (p : Place) (items : V → List Hop) (way : Option V) → IfNone way (IsThere found p → ⊥)
    → IfSome way (λ hops. IsWayTo found p (items hops)) → IsFound found p (option_map items way)
found_way found p items None none some = none
found_way found p items (Some hops) none some = some

some_way : {V : Type 0} (items : V → List Hop) (way : Option V) → is_some (option_map items way) ≡ is_some way
some_way items None = refl
some_way items (Some hops) = refl

-- the row of one way
pub rows_active_to : {V : Type 0} (names : Names) (form : Form) (v : State) (acts : ℕ → Bool) (from : ℕ) (to : Place) (found : List Reached) (items : V → List Hop)
    (way : Option V) (releases requests : List Request) (first second third : Output) (bytes : List ℕ) (positive : Bool) → IsFlow (IsHand v acts (has_room v)) (Object from) found
    → IfNone way (IsThere found to → ⊥) → IfSome way (λ hops. IsWayTo found to (items hops)) → DoesWay v acts from to (option_map items way) releases requests
    → form_of first ≡ form → bytes_of first ≡ way_or_never names form v from to (option_map items way)
    → form_of second ≡ form_of first → bytes_of second ≡ bytes_of first ++ requests_bytes names (form_of first) releases
    → form_of third ≡ form_of second → bytes_of third ≡ bytes_of second ++ requests_bytes names (form_of second) requests
    → bytes ≡ bytes_of third ++ full_bytes (form_of third) v → positive ≡ is_some way → RowsOfActiveTo names v acts from to form bytes positive
rows_active_to names form v acts from to found items way releases requests first second third bytes positive flow none some does form1 bytes1 form2 bytes2 form3 bytes3 both
    is_positive = record {
      way = option_map items way;
      right = is_way v acts from found flow to (option_map items way) (found_way found to items way none some);
      releases = releases;
      requests = requests;
      does = does;
      bytes = both ∙ (λ i. bytes_in_third i ++ full_bytes (form_in_third i) v);
      some = is_positive ∙ sym (some_way items way);
    } where
      form_in_third : form_of third ≡ form
      form_in_third = form3 ∙ form2 ∙ form1

      bytes_in_third : bytes_of third
          ≡ (way_or_never names form v from to (option_map items way) ++ requests_bytes names form releases) ++ requests_bytes names form requests
      bytes_in_third =
          bytes3 ∙ (λ i. (bytes2 ∙ (λ j. bytes1 j ++ requests_bytes names (form1 j) releases)) i ++ requests_bytes names ((form2 ∙ form1) i) requests)

-- a shortest way is one among those that were found
pub shortest_found : {V : Type 0} (v : State) (acts : ℕ → Bool) (from : ℕ) (to : Place) (found : List Reached) (items : V → List Hop) (way : Option V)
    → IsFlow (IsHand v acts (has_room v)) (Object from) found → IfSome way (λ hops. IsWayTo found to (items hops))
    → IfSome way (λ hops. IsShortest (IsHand v acts (has_room v)) (Object from) (items hops) to)
shortest_found v acts from to found items None flow some = tt
shortest_found v acts from to found items (Some hops) flow some = some v acts (has_room v) (Object from) flow
