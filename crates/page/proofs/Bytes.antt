-- What is printed on a page, said of its bytes: they are cut after what is written, and the part behind the text is as it was.
-- Assumes nothing.
use Rattle.std.proofs.Common.{ℕ, List, ◌++◌, ◌≡◌, sym, ap, ◌∙◌, Bool, true, false, refl, arith, length, take, drop, length-append}
use Rattle.std.proofs.lemmas.List.{drop_all, take-append-drop}
use borrow.Author.Tests.{leb-true, leb-false}
use lib.Dec.{leb}
use lib.ListN.{length-take, length-drop}
use lib.Seq.{take-append_seam, take-append-add, drop-append_seam, drop-append-add}
use Rattle.page.specs.Written.{Written}
use Rattle.page.specs.declared.Page.{Page}
use Rattle.page.specs.Page.{seen, blank, printed, bytes_of, Printed, PrintsBehind}

-- behind what fits of a text, or behind all of it
behind : (room text : List ℕ) → drop (length (take (length room) text)) room ≡ drop (length text) room
behind room text = go (leb (length text) (length room)) refl
  where
    go : (t : Bool) → leb (length text) (length room) ≡ t → drop (length (take (length room) text)) room ≡ drop (length text) room
    go true e =
        let l = leb-true (length text) (length room) e in
        let k : length (take (length room) text) ≡ length text = omega (arith, l, length-take (length room) text) in
        ap (λ n. drop n room) k
    go false e =
        let l = leb-false (length text) (length room) e in
        drop_all (length (take (length room) text)) room (omega (arith, l, length-take (length room) text)) ∙ sym (drop_all (length text) room (omega (arith, l)))

pub prints-behind : PrintsBehind
unfolding printed
prints-behind page text =
    let fits = take (length page.room) text in
    let before = page.text ++ fits in
    let rest = drop (length text) page.room in
    let whole = length-append page.text page.room in
    let size = length-append page.text fits in
    record {
      same_length = omega (arith, length-append before rest, size, whole, length-take (length page.room) text, length-drop (length text) page.room);
      reads =
          take-append_seam before rest
          ∙ sym (rw (take-append_seam page.text page.room, whole) (take-append-add page.text text (length page.room)));
      keeps =
          drop-append_seam before rest
          ∙ sym (rw size (drop-append-add page.text page.room (length fits)) ∙ behind page.room text);
      inside = λ h. omega (arith, size, whole, length-take (length page.room) text);
    }

-- a page is on the bytes that it was made on
pub same_loan : (a b : Page) (text : List ℕ) → seen a ≡ printed (seen b) text → a.bytes.ghost_name ≡ b.bytes.ghost_name
unfolding printed
same_loan a b text e = ap (λ (w : Written). w.loan) e

-- of lent bytes `out`: what they hold once the page on them is gone
pub lent : (room text : List ℕ) (loan : ℕ) (a b : Page) (out : List ℕ) → seen a ≡ blank room loan → seen b ≡ printed (seen a) text
    → (loan ≡ b.bytes.ghost_name → out ≡ b.bytes.now) → Printed room 0 text out b.end
lent room text loan a b out made e given =
    let page = printed (blank room loan) text in
    let all : seen b ≡ page = e ∙ ap (λ w. printed w text) made in
    let same : loan ≡ b.bytes.ghost_name = sym (same_loan b a text e ∙ ap (λ (w : Written). w.loan) made) in
    let bytes : out ≡ bytes_of page = given same ∙ sym (take-append-drop b.end b.bytes.now) ∙ ap bytes_of all in
    let full : b.end ≡ length (take b.end b.bytes.now) = omega (arith, length-take b.end b.bytes.now, b.inside) in
    let end : b.end ≡ length page.text = full ∙ ap (λ (w : Written). length w.text) all in
    rw (bytes, end) (prints-behind (blank room loan) text)
