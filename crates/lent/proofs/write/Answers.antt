-- `lent::write` meets its contract: the part that is lent holds DEADBEEF.
-- Assumes nothing.
use Rattle.std.proofs.Common.{◌≡◌, ap, ◌∙◌, arith, min, take, replicate, rules}
use Rattle.page.specs.Page.{seen, printed}
use Rattle.printer.specs.Texts.{buffer_text}
use Rattle.settings.specs.Refusal.{verdict_number}
use Rattle.writer.specs.Write.{write_verdict, written}
use Rattle.lent.specs.Lent.{lent_of}
use Rattle.lent.proofs.Buffers.{first_words}
use Rattle.lent.proofs.write.Goals as goal

pub returns : goal.returns
returns c =
    let name = c.args.name.now in
    let w = c.args.writing in
    let n : c.min.result ≡ min w.length 32 = search rules in
    let lent : take c.min.result (replicate 32 0xDEADBEEF) ≡ lent_of w =
    first_words c.min.result 32 0xDEADBEEF (omega (arith, n)) ∙ ap (λ k. replicate k 0xDEADBEEF) n in
    let number = c.verdict_number.ensures ∙ ap verdict_number (c.write-verdict.ensures.verdict ∙ ap (write_verdict w.layout w.settings) lent) in
    let words = c.write-verdict.ensures.words ∙ ap (written w.layout w.settings) lent in
    c.buffer.ensures
    ∙ ap (λ v. printed (seen c.args.page.now) (buffer_text name v c.write-verdict.new.buffer)) number
    ∙ ap (λ b. printed (seen c.args.page.now) (buffer_text name (verdict_number (write_verdict w.layout w.settings (lent_of w))) b)) words
