-- Which part of the state a command changes, as a column beside the table of commands, and the rows of one part. For `dispatch`,
-- where each part carries out its own commands, and for `command`, which picks the part by the opcode's place in the table.
use Rattle.std.specs.Prelude.{ℕ, List, [], ◌∷◌, ◌++◌, cond, eqb}
use Rattle.commands.specs.Table.{Row, rows, known_rows, air_rows, link_rows, privacy_rows, test_rows}
use Rattle.dispatch.specs.declared.Part.{Part}
use Rattle.dispatch.specs.declared.Part.TheVariants.{Nothing, Masks, Settings, Advertising, Scanning}
use Rattle.dispatch.specs.declared.Part.TheVariants.{AcceptList, ResolvingList, Links, Everything}

-- a number for each part, by which parts are compared
abbrev pub part_number : Part → ℕ
part_number Nothing = 0
part_number Masks = 1
part_number Settings = 2
part_number Advertising = 3
part_number Scanning = 4
part_number AcceptList = 5
part_number ResolvingList = 6
part_number Links = 7
part_number Everything = 8

-- the column, in the order of the table: for the commands below 0x2000, and for the LE commands
abbrev pub known_parts : List Part
known_parts =
    Links ∷ Nothing ∷ Masks ∷ Everything ∷ Nothing ∷ Settings ∷ Nothing ∷ Nothing ∷ Masks ∷ Nothing ∷ Links ∷
    Nothing ∷ Nothing ∷ Nothing ∷ Nothing ∷ Nothing ∷ []

abbrev pub le_parts : List Part
le_parts =
    (Masks ∷ Nothing ∷ Nothing ∷ Settings ∷ Advertising ∷ Nothing ∷ Advertising ∷ Advertising ∷ Advertising ∷
    Scanning ∷ Scanning ∷ Scanning ∷ Scanning ∷ Nothing ∷ AcceptList ∷ AcceptList ∷ AcceptList ∷ [])
    ++ (Links ∷ Nothing ∷ Nothing ∷ Nothing ∷ Nothing ∷ Nothing ∷ Nothing ∷ Links ∷ Links ∷ Links ∷ Nothing ∷ Links ∷
    Nothing ∷ Settings ∷ [])
    ++ (ResolvingList ∷ ResolvingList ∷ ResolvingList ∷ Nothing ∷ Nothing ∷ Nothing ∷ Settings ∷ Settings ∷ Nothing ∷
    Nothing ∷ Settings ∷ Links ∷ ResolvingList ∷ [])
    ++ (Nothing ∷ Settings ∷ Settings ∷ Settings ∷ Settings ∷ Settings ∷ Nothing ∷ Nothing ∷ Nothing ∷ Nothing ∷
    Settings ∷ [])

abbrev pub parts : List Part
parts = known_parts ++ le_parts

-- the rows that have the part in the column
abbrev pub chosen : Part → List Row → List Part → List Row
chosen part [] column = []
chosen part (r ∷ l) [] = []
chosen part (r ∷ l) (other ∷ column) =
    cond (eqb (part_number other) (part_number part)) (r ∷ chosen part l column) (chosen part l column)

-- the rows of the commands that change this part of the state and no other
abbrev pub rows_of : Part → List Row
rows_of part = chosen part rows parts

-- those that change nothing: the commands below 0x2000, and the LE commands
abbrev pub known_reads : List Row
known_reads = chosen Nothing known_rows known_parts

abbrev pub le_reads : List Row
le_reads = chosen Nothing (air_rows ++ link_rows ++ privacy_rows ++ test_rows) le_parts
