use Rattle.std.proofs.Common.{◌≡◌}
use Rattle.pk_values.specs.declared.words.WordsErr.TheVariants.{Memory}
use Rattle.pk_bind.proofs.LiteralLemmas.{is_memory}
use Rattle.pk_bind.proofs.literals.words_of.Goals as goal

pub unreachable-requires : goal.unreachable-requires
unreachable-requires c =
    let is : c.in-Err-TooLong.field-0 ≡ Memory = is_memory c.in-Err-TooLong.field-0 c.args.bytes.now c.requires c.in-Err-TooLong.ensures.cause in cc

pub unreachable-requires-in-Err-NotUtf8 : goal.unreachable-requires-in-Err-NotUtf8
unreachable-requires-in-Err-NotUtf8 c =
    let is : c.in-Err-NotUtf8.field-0 ≡ Memory = is_memory c.in-Err-NotUtf8.field-0 c.args.bytes.now c.requires c.in-Err-NotUtf8.ensures.cause in cc
