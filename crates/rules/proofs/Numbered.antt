-- No reason has the number 0.
use mathlib.Core.Path.{◌≡◌, refl}
use mathlib.Core.Bool.{false}
use lib.Dec.{eqb}
use Rattle.rules.specs.declared.reason.Reason.{Reason}
use Rattle.rules.specs.declared.reason.Reason.TheVariants.{InputTooLong, BadShapes, BitsMissing, TooManyFields, NoRoom, BadCount, ExtensionsUnended, ParentUndeclared, ParentsInCircle, NoConfiguration, TooManyParameters, TooManyRendererParameters, ReverbType, MatrixLocation, RadiationType, ComponentType, LabelUnended, HeadphoneBytes, CompressionBytes, SymbolWidth, CodewordWidth, BadProbabilities, FileTooLong, HeaderUnsound, NameUnknown, TextTooLong, RoomGeometryFallback, DoublePrecision, HrtfType2, HrtfType, LzwWidth, ListsDiffer, ParentNotDynamic, PacketTooLong, BitsFollow}
use Rattle.rules.specs.Reason.{number_of}

pub numbered : (e : Reason) → eqb (number_of e) 0 ≡ false
numbered InputTooLong = refl
numbered BadShapes = refl
numbered BitsMissing = refl
numbered TooManyFields = refl
numbered NoRoom = refl
numbered BadCount = refl
numbered ExtensionsUnended = refl
numbered ParentUndeclared = refl
numbered ParentsInCircle = refl
numbered NoConfiguration = refl
numbered TooManyParameters = refl
numbered TooManyRendererParameters = refl
numbered ReverbType = refl
numbered MatrixLocation = refl
numbered RadiationType = refl
numbered ComponentType = refl
numbered LabelUnended = refl
numbered HeadphoneBytes = refl
numbered CompressionBytes = refl
numbered SymbolWidth = refl
numbered CodewordWidth = refl
numbered BadProbabilities = refl
numbered FileTooLong = refl
numbered HeaderUnsound = refl
numbered NameUnknown = refl
numbered TextTooLong = refl
numbered RoomGeometryFallback = refl
numbered DoublePrecision = refl
numbered HrtfType2 = refl
numbered HrtfType = refl
numbered LzwWidth = refl
numbered ListsDiffer = refl
numbered ParentNotDynamic = refl
numbered PacketTooLong = refl
numbered BitsFollow = refl
