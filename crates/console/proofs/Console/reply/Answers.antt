-- `Console::reply` meets its contract: a text, or none, is what the line's bytes ask for.
-- Assumes nothing.
use Rattle.std.specs.Prelude.{Some, None}
use Rattle.page.specs.Page.{seen}
use Rattle.session.specs.Answering.{meant}
use Rattle.console.proofs.Replies.{answered}
use Rattle.console.proofs.Console.reply.Goals as goal

pub returns-in-Some : goal.returns-in-Some
returns-in-Some c =
    λ bs k. answered c.line.new.self (seen c.args.page.now) (seen c.line.new.page) (meant c.args.self.now.session) bs {text = Some c.in-Some.text.now} (c.in-Some.ensures.by_bytes bs k) c.line.ensures

pub returns-in-None : goal.returns-in-None
returns-in-None c = λ bs k. answered c.long_line.new.self (seen c.args.page.now) (seen c.long_line.new.page) (meant c.args.self.now.session) bs {text = None} (c.in-None.ensures.by_bytes bs k) c.long_line.ensures
