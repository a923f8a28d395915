-- The numbers and names of the refusals and faults, as every printed text has them.
use Rattle.std.specs.Prelude.{ℕ, List, codes}
use Rattle.tp_common.specs.declared.refusal.Refusal.{Refusal}
use Rattle.tp_common.specs.declared.refusal.Refusal.TheVariants as refusal

-- the number of a refusal, and the bytes of its name
abbrev pub label : Refusal → ℕ × List ℕ
label refusal.BadLine = (1, codes "BadLine")
label refusal.Read = (2, codes "Read")
label refusal.Write = (3, codes "Write")
label refusal.Syntax = (10, codes "Syntax")
label refusal.Unknown = (11, codes "Unknown")
label refusal.Duplicate = (12, codes "Duplicate")
label refusal.WrongType = (13, codes "WrongType")
label refusal.Direction = (14, codes "Direction")
label refusal.Limit = (15, codes "Limit")
label refusal.NotInSut = (16, codes "NotInSut")
label refusal.NoDone = (17, codes "NoDone")
label refusal.NotStarted = (18, codes "NotStarted")
label refusal.Directions = (20, codes "Directions")
label refusal.TwoPortsOfOne = (21, codes "TwoPortsOfOne")
label refusal.Mixed = (22, codes "Mixed")
label refusal.NotOneToOne = (23, codes "NotOneToOne")
label refusal.MapDirections = (24, codes "MapDirections")
label refusal.SystemPort = (25, codes "SystemPort")
label refusal.SamePort = (26, codes "SamePort")
label refusal.Already = (27, codes "Already")
label refusal.NotSystem = (28, codes "NotSystem")
label refusal.NotSending = (40, codes "NotSending")
label refusal.NoRoute = (41, codes "NoRoute")
label refusal.NeedsTo = (42, codes "NeedsTo")
label refusal.UnsetVariable = (43, codes "UnsetVariable")
label refusal.Memory = (50, codes "Memory")
label refusal.NoThread = (51, codes "NoThread")
label refusal.Restless = (61, codes "Restless")
label refusal.NoOrder = (62, codes "NoOrder")
