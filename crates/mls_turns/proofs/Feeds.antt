-- What a feed gave and was told in one turn.
use Rattle.std.proofs.Common.{◌≡◌, ℕ, ◌+◌, ◌<◌, List, [], ◌∷◌, ◌++◌, length, take, get_or, refl, sym, ap, ◌∙◌, subst, Option, Some}
use Rattle.std.proofs.lemmas.List.{take_more}
use Rattle.mls_requests.specs.declared.ask.Ask.{Ask}
use Rattle.mls_monitor.specs.Feeds.{GaveAhead, Heard, Gave}
use Rattle.mls_monitor.specs.declared.feed.Answer.{Answer as Told}

-- what a feed gave, and heard, and once more
module _ {F : Type 0} (gives : F → Option Ask → F → Type 0) (gives_ahead : F → Ask → F → Type 0) where
  ahead_one : (f g h : F) (asks : List Ask) (a : Ask) → GaveAhead gives_ahead f asks g → gives_ahead g a h → GaveAhead gives_ahead f (asks ++ a ∷ []) h
  ahead_one f g h [] a so given = (h, subst (λ z. gives_ahead z a h) (sym so) given, refl)
  ahead_one f g h (x ∷ asks) a so given = (so.0, so.1, ahead_one so.0 g h asks a so.2 given)

  pub gave_first : (f g : F) (asks : List Ask) (a : Ask) → gives f (Some a) g → asks ≡ a ∷ [] → Gave gives gives_ahead f asks g
  gave_first f g asks a given is = record { first = a; more = []; are = is; asked = g; gives_it = given; gave_more = refl }

  pub gave_one : (f g h : F) (asks now : List Ask) (a : Ask) → Gave gives gives_ahead f asks g → gives_ahead g a h → now ≡ asks ++ a ∷ [] → Gave gives gives_ahead f now h
  gave_one f g h asks now a so given is =
      record { first = so.first; more = so.more ++ a ∷ []; are = is ∙ ap (λ xs. xs ++ a ∷ []) so.are; asked = so.asked; gives_it = so.gives_it; gave_more = ahead_one so.asked g h so.more a so.gave_more given }

  -- the first two
  pub gave_two : (f g h : F) (asks : List Ask) (a b : Ask) → gives f (Some a) g → gives_ahead g b h → asks ≡ a ∷ b ∷ [] → Gave gives gives_ahead f asks h
  gave_two f g h asks a b given ahead is = record { first = a; more = b ∷ []; are = is; asked = g; gives_it = given; gave_more = (h, ahead, refl) }

heard_one : {F : Type 0} (hears : F → Told → F → Type 0) (f g h : F) (answers : List Told) (t : Told) → Heard hears f answers g → hears g t h → Heard hears f (answers ++ t ∷ []) h
heard_one hears f g h [] t so heard = (h, subst (λ z. hears z t h) (sym so) heard, refl)
heard_one hears f g h (x ∷ answers) t so heard = (so.0, so.1, heard_one hears so.0 g h answers t so.2 heard)

-- the answers so far, and the one at the next place
pub heard_next : {F : Type 0} (hears : F → Told → F → Type 0) (f g h : F) (answers : List Told) (i : ℕ) (t : Told) → Heard hears f (take i answers) g → i < length answers → t ≡ get_or answers i t → hears g t h
    → Heard hears f (take (i + 1) answers) h
heard_next hears f g h answers i t so within is heard =
    subst (λ ts. Heard hears f ts h) (ap (λ u. take i answers ++ u ∷ []) is ∙ sym (take_more answers i t within)) (heard_one hears f g h (take i answers) t so heard)
