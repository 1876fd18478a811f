-- What a list is after an item was turned to its place or out of it, and after a stretch of it was written.
use Rattle.std.proofs.Common.{◌≡◌, ℕ, ◌+◌, ◌-◌, ◌<◌, ◌≤◌, List, [], ◌∷◌, ◌++◌, length, take, drop, set, sym, ap, ◌∙◌, arith, length-append, length-take, length-drop, length-set, append_assoc}
use Rattle.std.proofs.Math.Seq.{drop-append_seam, take-append_seam}
use Rattle.std.specs.List.{insert, copy_within}
use Rattle.std.proofs.lemmas.List.Edits.{take-paste}
use Rattle.std.proofs.lemmas.List.{append-nil, take_all, take_more_set, take-append-le, drop-append-le, drop-drop, drop-take, drop_all}
use Rattle.std.proofs.lemmas.Slice.{take-put_mid_below, drop-put_mid}
use borrow.Rule.Slice.PartMut.{put_mid}
use Rattle.mls_tables.specs.declared.span.Span.{Span}
use Rattle.mls_tables.specs.Lists.{list_at}
use Rattle.mls_tables.specs.Rows.{cut}

-- a list whose last item was written
pub written_last : {X : Type 0} (xs : List X) (x : X) → 0 < length xs → set xs (length xs - 1) x ≡ take (length xs - 1) xs ++ x ∷ []
written_last xs x some =
    let long : length (set xs (length xs - 1) x) ≡ length xs = length-set xs (length xs - 1) x in
    sym (take_all (length xs - 1 + 1) (set xs (length xs - 1) x) (omega arith)) ∙ take_more_set xs (length xs - 1) x (omega arith)

-- the last item of a list turned to a place before the others
pub turned_right : {X : Type 0} (ys : List X) (x : X) (k m : ℕ) (now part : List X) → k ≤ length ys → length now ≤ k + m → now ≡ ys ++ x ∷ []
    → part ≡ drop (length (take m (drop k now)) - 1) (take m (drop k now)) ++ take (length (take m (drop k now)) - 1) (take m (drop k now))
    → put_mid k m now part ≡ insert ys k x
turned_right {X} ys x k m now part fits whole is turned = (λ i. front i ++ (moved i ++ rest i)) ∙ ap (λ l. take k ys ++ l) (append-nil (x ∷ drop k ys)) where
  long : length now ≡ length ys + 1
  long = ap length is ∙ length-append ys (x ∷ [])

  behind : length (drop k ys ++ x ∷ []) ≡ length (drop k ys) + 1
  behind = length-append (drop k ys) (x ∷ [])

  sub : take m (drop k now) ≡ drop k ys ++ x ∷ []
  sub = ap (λ l. take m (drop k l)) is ∙ ap (take m) (drop-append-le k ys (x ∷ []) fits) ∙ take_all m (drop k ys ++ x ∷ []) (omega (arith, behind, long, length-drop k ys))

  count : length (drop k ys ++ x ∷ []) - 1 ≡ length (drop k ys)
  count = omega (arith, behind)

  moved : part ≡ x ∷ drop k ys
  moved =
      turned
      ∙ (λ i. drop (length (sub i) - 1) (sub i) ++ take (length (sub i) - 1) (sub i))
      ∙ (λ i. drop (count i) (drop k ys ++ x ∷ []) ++ take (count i) (drop k ys ++ x ∷ []))
      ∙ (λ i. drop-append_seam (drop k ys) (x ∷ []) i ++ take-append_seam (drop k ys) (x ∷ []) i)

  rest : drop m (drop k now) ≡ []
  rest = drop_all m (drop k now) (omega (arith, length-drop k now))

  front : take k now ≡ take k ys
  front = ap (take k) is ∙ take-append-le k ys (x ∷ []) fits

-- the item at a place turned to the end
pub turned_left : {X : Type 0} (xs : List X) (k m : ℕ) (part : List X) → k < length xs → length xs ≤ k + m
    → part ≡ drop 1 (take m (drop k xs)) ++ take 1 (take m (drop k xs)) → take (length xs - 1) (put_mid k m xs part) ≡ cut xs k 1
turned_left {X} xs k m part within whole turned = ap (take (length xs - 1)) shape ∙ (λ i. take (count i) (kept ++ (take 1 (drop k xs) ++ []))) ∙ take-append_seam kept (take 1 (drop k xs) ++ []) where
  kept : List X
  kept = cut xs k 1

  sub : take m (drop k xs) ≡ drop k xs
  sub = take_all m (drop k xs) (omega (arith, length-drop k xs))

  later : drop 1 (drop k xs) ≡ drop (k + 1) xs
  later = drop-drop 1 k xs

  rest : drop m (drop k xs) ≡ []
  rest = drop_all m (drop k xs) (omega (arith, length-drop k xs))

  shape : put_mid k m xs part ≡ kept ++ (take 1 (drop k xs) ++ [])
  shape =
      (λ i. take k xs ++ ((turned ∙ (λ j. drop 1 (sub j) ++ take 1 (sub j)) ∙ (λ j. later j ++ take 1 (drop k xs))) i ++ rest i))
      ∙ ap (λ l. take k xs ++ l) (append_assoc (drop (k + 1) xs) (take 1 (drop k xs)) [])
      ∙ sym (append_assoc (take k xs) (drop (k + 1) xs) (take 1 (drop k xs) ++ []))

  count : length xs - 1 ≡ length kept
  count = omega (arith, length-append (take k xs) (drop (k + 1) xs), length-take k xs, length-drop (k + 1) xs)

-- what stands behind a part of a list, moved down over it
pub moved_down : {X : Type 0} (xs : List X) (k count : ℕ) → k + count ≤ length xs → take (length xs - count) (copy_within xs (k + count) (length xs) k) ≡ cut xs k count
moved_down xs k count fits =
    let rest : length xs - (k + count) ≡ length (drop (k + count) xs) = sym (length-drop (k + count) xs) in
    let many : length xs - count ≡ k + (length xs - (k + count)) = omega arith in
    ap (λ n. take n (copy_within xs (k + count) (length xs) k)) many
    ∙ take-paste xs k (drop (k + count) xs) (length xs - (k + count)) (omega arith) (omega arith)
    ∙ ap (λ l. take k xs ++ l) (take_all (length xs - (k + count)) (drop (k + count) xs) (omega arith))

module _ {X : Type 0} (store part : List X) (from k : ℕ) (fits : from + k ≤ length store) where
  -- a list that lies before what was written
  pub list_at-before : (u : Span) → u.start + u.len ≤ from → list_at (put_mid from k store part) u ≡ list_at store u
  list_at-before u before =
      sym (drop-take u.start u.len (put_mid from k store part))
      ∙ ap (drop u.start) (take-put_mid_below from k store part (u.start + u.len) before (omega arith))
      ∙ drop-take u.start u.len store

  -- and one that lies behind it
  pub list_at-behind : (u : Span) → length part ≡ length (take k (drop from store)) → from + k ≤ u.start → list_at (put_mid from k store part) u ≡ list_at store u
  list_at-behind u long behind =
      ap (take u.len) (drop-put_mid from k store part u.start behind (omega arith) (omega (arith, long, length-take k (drop from store), length-drop from store)))
