-- `part_at` meets its contract: the table is the column, which a place below 71 is within.
use Rattle.std.proofs.lemmas.List.{get_or_default}
use Rattle.dispatch.specs.declared.Part.TheVariants.{Nothing}
use Rattle.dispatch.specs.Parts.{parts}
use Rattle.dispatch.proofs.part_at.Goals as goal

pub returns : goal.returns
returns c = get_or_default parts c.args.place _ Nothing c.requires
