use Rattle.std.proofs.Common.{◌≡◌, ◌≤◌, ◌<◌, ◌^◌, drop}
use Rattle.std.specs.List.{fold}
use Rattle.pk_parse.specs.Literals.{with_digit, number_of}
use Rattle.pk_parse.proofs.literals.number_within.Given as goal

-- the number so far is within the bound, and with the digits that are left it is the number of all
abbrev pub invariant-loop-digit : goal.invariant-loop-digit
invariant-loop-digit l = record {
  within : l.number ≤ l.most;
  small : l.most < 2 ^ 64;
  so_far : fold with_digit l.number (drop l.digit-index l.digits) ≡ number_of l.digits;
}
