-- `Console::answer` meets its contract: the page holds the answer, and is written.
-- Assumes nothing.
use Rattle.std.proofs.Common.{ap, subst, ◌∙◌, arith}
use Rattle.page.specs.Page.{seen, printed}
use Rattle.session.specs.Answering.{meant}
use Rattle.console.specs.Stream.{answer_to}
use Rattle.console.specs.Written.{Writes}
use Rattle.console.proofs.Replies.{whole}
use Rattle.console.proofs.Console.answer.Goals as goal

pub returns-clause-written : goal.returns-clause-written
returns-clause-written g c =
    let s = meant c.args.self.now.session in
    λ bs k.
    subst (Writes g.W.Write.contents c.args.output.now c.write.new.self)
    (c.written.ensures ∙ whole s bs _ _ (seen c.reply.new.page) (omega arith) ((c.reply.ensures bs k).1 ∙ ap (λ p. printed p (answer_to s bs)) c.new-page.ensures))
    c.write.ensures
