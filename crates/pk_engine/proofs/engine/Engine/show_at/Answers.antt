use Rattle.std.proofs.Common.{List, ℕ, ◌∙◌, ap}
use Rattle.pk_syntax.specs.Printing.{table_text}
use Rattle.pk_schema.specs.Shapes.{decl_of}
use Rattle.pk_report.specs.declared.reply.Reply.TheVariants.{Shown}
use Rattle.pk_engine.specs.Base.{Table}
use Rattle.pk_engine.proofs.CommitLemmas.{same_at}
use Rattle.pk_engine.proofs.engine.Engine.show_at.Goals as goal

pub returns : goal.returns
returns c = λ st t stands is.
    let same = same_at c.args.self.now.tables.items c.args.place t c.index.result.now c.index.ensures is in
    ap (λ (bytes : List ℕ). Shown bytes) (c.in_ok-text.ensures ∙ ap (λ (u : Table). table_text (decl_of u.name u.shape)) same)
