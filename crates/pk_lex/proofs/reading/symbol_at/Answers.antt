use Rattle.std.proofs.Common.{sym}
use Rattle.pk_lex.proofs.SymbolLemmas.{symbol_at_none, symbol_at_one, symbol_at_more}
use Rattle.pk_lex.proofs.reading.symbol_at.Goals as goal

pub returns-in-empty : goal.returns-in-empty
returns-in-empty c = sym (symbol_at_none c.args.bytes.now c.in-empty.len_below)

pub returns-in-len1 : goal.returns-in-len1
returns-in-len1 c =
    let e = symbol_at_one c.args.bytes.now c.in-len1.len_at_least c.in-len1.len_below in cc

pub returns-in-len2-up : goal.returns-in-len2-up
returns-in-len2-up c = let e = symbol_at_more c.args.bytes.now c.in-len2-up.len_at_least in cc
