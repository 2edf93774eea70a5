-- The text is the fault alone, or the lines of the walk; and so, of a file that is frames end to end, their lines.
use Rattle.std.proofs.Common.{◌∙◌, arith}
use Rattle.listing.proofs.AllLines.{too_long, walked, whole_lines}
use Rattle.listing.proofs.list.listing.Goals as goal
use Rattle.listing.proofs.list.listing.Goals.{then-is_too_long, else-is_too_long+in_ok-ending}

pub returns-clause-value : goal.returns-clause-value
returns-clause-value c =
    elim c.if-is_too_long.branch [
      | then-is_too_long w ↦ grind (arith, too_long c.args.input.now)
      | else-is_too_long+in_ok-ending w ↦ grind (arith, walked c.args.input.now)
    ]

pub returns-clause-whole : goal.returns-clause-whole
returns-clause-whole c = λ ps e h. returns-clause-value c ∙ whole_lines _ ps e h
