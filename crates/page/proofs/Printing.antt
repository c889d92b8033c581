-- Printing in a row: text after text is the two texts in one, whatever does not fit.
-- Assumes nothing.
use Rattle.std.proofs.Common.{ℕ, zero, suc, ◌+◌, ◌-◌, ◌≤◌, ◌<◌, List, [], ◌∷◌, ◌++◌, ◌≡◌, refl, sym, ap, ◌∙◌, arith, add-one, length, take, drop, min, length-append}
use Rattle.std.proofs.lemmas.List.{drop_all, take_min, drop_min}
use mathlib.Core.List.{append_assoc, append-nil}
use lib.ListN.{set, get_or, length-drop}
use lib.Seq.{take_all, drop-drop, take-suc, take-suc-set, drop-set-lt}
use Rattle.page.specs.Written.{Written}
use Rattle.page.specs.Page.{printed, blank}

abbrev written : List ℕ → List ℕ → ℕ → Written
written text room loan = record { text = text; room = room; loan = loan }

both : {text text' room room' : List ℕ} {loan : ℕ} → text ≡ text' → room ≡ room' → written text room loan ≡ written text' room' loan
both {text} {text'} {room} {room'} {loan} e f = ap (λ t. written t room loan) e ∙ ap (λ r. written text' r loan) f

-- what there is room for of two texts: of the first, and then of the second
take_both : (n : ℕ) (xs ys : List ℕ) → take n xs ++ take (n - length xs) ys ≡ take n (xs ++ ys)
take_both zero xs ys = let e : 0 - length xs ≡ 0 = omega arith in rw e refl
take_both (suc n) [] ys = let e : suc n - 0 ≡ suc n = omega arith in rw e refl
take_both (suc n) (x ∷ xs) ys = let e : suc n - length (x ∷ xs) ≡ n - length xs = omega arith in rw e (ap (λ (r : List ℕ). x ∷ r) (take_both n xs ys))

-- what is printed in a row is printed as one text
pub printed_then : (page : Written) (a b : List ℕ) → printed (printed page a) b ≡ printed page (a ++ b)
unfolding printed
printed_then page a b =
    both
    (append_assoc page.text (take (length page.room) a) (take (length (drop (length a) page.room)) b)
    ∙ ap (λ r. page.text ++ r) (rw (length-drop (length a) page.room) (take_both (length page.room) a b)))
    (rw (length-append a b) (drop-drop (length b) (length a) page.room))

-- the same between two calls
pub and_then : (page page' page'' : Written) (a b : List ℕ) → page' ≡ printed page a → page'' ≡ printed page' b → page'' ≡ printed page (a ++ b)
and_then page page' page'' a b p q = q ∙ ap (λ r. printed r b) p ∙ printed_then page a b

pub printed_nothing : (page : Written) → printed page [] ≡ page
unfolding printed
printed_nothing page = both (ap (λ r. page.text ++ r) (take_all (length page.room) [] (omega arith)) ∙ append-nil page.text) refl

-- a text up to one byte more
pub printed_more : (page : Written) (text : List ℕ) (i : ℕ) → i < length text
    → printed (printed page (take i text)) (get_or text i 0 ∷ []) ≡ printed page (take (i + 1) text)
printed_more page text i h = printed_then page (take i text) (get_or text i 0 ∷ []) ∙ ap (printed page) (rw add-one (sym (take-suc text i 0 h)))

-- a byte that fits
pub printed_byte : (bytes : List ℕ) (n b loan : ℕ) → n < length bytes
    → written (take (n + 1) (set bytes n b)) (drop (n + 1) (set bytes n b)) loan ≡ printed (written (take n bytes) (drop n bytes) loan) (b ∷ [])
unfolding printed
printed_byte bytes n b loan h =
    let fits : take (length (drop n bytes)) (b ∷ []) ≡ b ∷ [] = take_all (length (drop n bytes)) (b ∷ []) (omega (arith, length-drop n bytes)) in
    both
    (rw (add-one n) (take-suc-set bytes n b h) ∙ ap (λ r. take n bytes ++ r) (sym fits))
    (drop-set-lt (n + 1) bytes n b (omega arith) ∙ sym (drop-drop 1 n bytes))

-- a place past the bytes is their end
pub written_up_to : (bytes : List ℕ) (at n loan : ℕ) → n ≡ min at (length bytes) → written (take n bytes) (drop n bytes) loan ≡ written (take at bytes) (drop at bytes) loan
written_up_to bytes at n loan e = rw e (both (take_min at bytes) (drop_min at bytes))

-- on a full page
pub printed_full : (bytes : List ℕ) (n loan : ℕ) (text : List ℕ) → length bytes ≤ n
    → written (take n bytes) (drop n bytes) loan ≡ printed (written (take n bytes) (drop n bytes) loan) text
unfolding printed
printed_full bytes n loan text h =
    let none : drop n bytes ≡ [] = drop_all n bytes h in
    both (rw none (sym (append-nil (take n bytes)))) (rw none (sym (drop_all (length text) [] (omega arith))))

-- a text that a blank page holds
pub fits_blank : (room text : List ℕ) (loan : ℕ) → length text ≤ length room → (printed (blank room loan) text).text ≡ text
unfolding printed
fits_blank room text loan h = take_all (length room) text h
