-- What each crate of a linked program says in its proofs/Linked.antt: a program that has the crate's table under its name, and the code
-- of what the crate calls, has this code.
use mathlib.Core.Bool.{true}
use mir.Syntax.{Symbol}
use prog.Linked.{World, Tree, Holds, in_world}
use prog.LinkedThreads.{HasT}
use prog.Wired.{Code}

abbrev pub HasAt : Symbol → Tree → (World → Type 0) → Code → Type 0
HasAt name table Below code = (W : World) → Holds W name table → Below W → HasT (in_world W) true code
