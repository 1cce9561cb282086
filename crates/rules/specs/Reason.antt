-- Why a reading ended, by the code's enum: its number, and whether it refuses or stops.
use Rattle.std.specs.Prelude.{ℕ, ◌≡◌, Result, Ok, Err, MatchResult}
use Rattle.rules.specs.declared.reason.Reason.{Reason}
use Rattle.rules.specs.declared.reason.Reason.TheVariants.{InputTooLong, BadShapes, BitsMissing, TooManyFields, NoRoom, BadCount, ExtensionsUnended, ParentUndeclared, ParentsInCircle, NoConfiguration, TooManyParameters, TooManyRendererParameters, ReverbType, MatrixLocation, RadiationType, ComponentType, LabelUnended, HeadphoneBytes, CompressionBytes, SymbolWidth, CodewordWidth, BadProbabilities, FileTooLong, HeaderUnsound, NameUnknown, TextTooLong, RoomGeometryFallback, DoublePrecision, HrtfType2, HrtfType, LzwWidth, ListsDiffer, ParentNotDynamic, PacketTooLong, BitsFollow}
use Rattle.rules.specs.declared.reason.UnknownReason.{UnknownReason}
use Rattle.rules.specs.Rule.{End, refused, stopped}

abbrev pub number_of : Reason → ℕ
number_of InputTooLong = 1
number_of BadShapes = 2
number_of BitsMissing = 3
number_of TooManyFields = 4
number_of NoRoom = 5
number_of BadCount = 6
number_of ExtensionsUnended = 7
number_of ParentUndeclared = 8
number_of ParentsInCircle = 9
number_of NoConfiguration = 10
number_of TooManyParameters = 11
number_of TooManyRendererParameters = 12
number_of ReverbType = 13
number_of MatrixLocation = 14
number_of RadiationType = 15
number_of ComponentType = 16
number_of LabelUnended = 17
number_of HeadphoneBytes = 18
number_of CompressionBytes = 19
number_of SymbolWidth = 20
number_of CodewordWidth = 21
number_of BadProbabilities = 22
number_of FileTooLong = 23
number_of HeaderUnsound = 24
number_of NameUnknown = 25
number_of TextTooLong = 26
number_of RoomGeometryFallback = 31
number_of DoublePrecision = 32
number_of HrtfType2 = 33
number_of HrtfType = 34
number_of LzwWidth = 35
number_of ListsDiffer = 36
number_of ParentNotDynamic = 37
number_of PacketTooLong = 38
number_of BitsFollow = 39

abbrev pub end_of : Reason → End
end_of InputTooLong = refused 1
end_of BadShapes = refused 2
end_of BitsMissing = refused 3
end_of TooManyFields = refused 4
end_of NoRoom = refused 5
end_of BadCount = refused 6
end_of ExtensionsUnended = refused 7
end_of ParentUndeclared = refused 8
end_of ParentsInCircle = refused 9
end_of NoConfiguration = refused 10
end_of TooManyParameters = refused 11
end_of TooManyRendererParameters = refused 12
end_of ReverbType = refused 13
end_of MatrixLocation = refused 14
end_of RadiationType = refused 15
end_of ComponentType = refused 16
end_of LabelUnended = refused 17
end_of HeadphoneBytes = refused 18
end_of CompressionBytes = refused 19
end_of SymbolWidth = refused 20
end_of CodewordWidth = refused 21
end_of BadProbabilities = refused 22
end_of FileTooLong = refused 23
end_of HeaderUnsound = refused 24
end_of NameUnknown = refused 25
end_of TextTooLong = refused 26
end_of RoomGeometryFallback = stopped 31
end_of DoublePrecision = stopped 32
end_of HrtfType2 = stopped 33
end_of HrtfType = stopped 34
end_of LzwWidth = stopped 35
end_of ListsDiffer = refused 36
end_of ParentNotDynamic = refused 37
end_of PacketTooLong = refused 38
end_of BitsFollow = refused 39

-- the number of a question that is not met, or 0
abbrev pub asked : {A : Type 0} → Result A Reason → ℕ
asked (Ok a) = 0
asked (Err e) = number_of e

-- it refuses, and stops nothing
abbrev pub Refuses : Reason → Type 0
Refuses e = end_of e ≡ refused (number_of e)

abbrev pub IsRefusal : {A : Type 0} → Result A Reason → Type 0
IsRefusal (Ok a) = Unit {0}
IsRefusal (Err e) = Refuses e

-- the reason that has a number, or the number itself if none has it
abbrev pub Decodes : ℕ → Result Reason UnknownReason → Type 0
Decodes n r = MatchResult r (λ reason. number_of reason ≡ n) (λ e. (e.0 ≡ n) × ((reason : Reason) → number_of reason ≡ n → ⊥))
