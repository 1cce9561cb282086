-- The bytes that are lent for the text are enough for every file.
use Prim.Native.Nat.{ℕ, zero, suc, ◌+◌, ◌-◌, ◌*◌, ◌≤◌}
use mathlib.Core.Path.{◌≡◌, refl, ap}
use mathlib.Core.List.{List, [], ◌∷◌}
use mathlib.Core.Bool.{Bool, true, false}
use native.Mathlib.Omega.{arith}
use borrow.Author.Tests.{eqb-true}
use lib.Dec.{eqb}
use lib.ListN.{length, length-append}
use Rattle.rules.specs.declared.Answer.{Answer}
use Rattle.rules.specs.Reading.{is_read}
use Rattle.rules.proofs.Pick.{by_pick}
use Rattle.position.specs.declared.PositionSyntax.{PositionSyntax}
use Rattle.book.specs.Book.{Packet, Given, scene_step, update_step, show, step_in, book_first, book_answers, book_shapes}
use Rattle.book.proofs.Steps.{told_many}
use Rattle.book.proofs.Book.{shapes_many, first_many}
use Rattle.show_header.specs.Header.{part_count, is_sound, file_question}
use Rattle.show_header.proofs.Sound.{sound_if, question_met}
use Rattle.show_parts.specs.Parts.{packet, packets}
use Rattle.show_lines.specs.Lines.{part_line, shapes_text}
use Rattle.show_lines.proofs.Room.{part_most, shapes_most, refused_most}
use Rattle.show.specs.Show.{part_lines, updates_text, rest_text, parts_text, show_text}

-- the lines of the parts: none of them is longer than 84 bytes
parts_most : (k : ℕ) (gs : List Given) → length (part_lines k gs) ≤ 84 * length gs
unfolding part_lines
parts_most k [] = omega arith
parts_most k (g ∷ gs) =
    let a = length-append (part_line k g.graph.answer) (part_lines (k + 1) gs) in
    let b = part_most k g.graph.answer in
    let c = parts_most (k + 1) gs in
    omega arith

packets_many : (file : List ℕ) (n k : ℕ) → length (packets file n k) ≡ n
unfolding packets
packets_many file zero k = refl
packets_many file (suc n) k = ap suc (packets_many file n (k + 1))

updates_most : (k : ℕ) (ps : List Packet) (s : List PositionSyntax) → length (updates_text k ps s) ≤ 84 * length ps + 84 * length s + 84
unfolding updates_text
updates_most k ps s =
    let left = book_shapes show ps s in
    let a = length-append (part_lines k (book_answers show ps s)) (shapes_text left) in
    let b = parts_most k (book_answers show ps s) in
    let c = shapes_most left in
    let d = shapes_many show ps s in
    let e = told_many (step_in show update_step) ps s in
    omega arith

rest_most : (file : List ℕ) → is_sound file ≡ true → (scene : Answer) → length (rest_text file scene (book_first show (packet file 0))) ≤ 84 * 255 + 84 * 63 + 84
unfolding rest_text
rest_most file t scene = by (is_read scene.outcome) refl
  where
    others : List Packet
    others = packets file (part_count file - 1) 1

    updates : length (updates_text 1 others (book_first show (packet file 0))) ≤ 84 * 255 + 84 * 63 + 84
    updates =
        let a = updates_most 1 others (book_first show (packet file 0)) in
        let b = packets_many file (part_count file - 1) 1 in
        let c = first_many show (packet file 0) in
        let d = (sound_if file t).most in
        omega arith

    by : (b : Bool) → is_read scene.outcome ≡ b → length (rest_text file scene (book_first show (packet file 0))) ≤ 84 * 255 + 84 * 63 + 84
    by true e = rw e updates
    by false e = rw e (omega arith)

parts_text_most : (file : List ℕ) → is_sound file ≡ true → length (parts_text file) ≤ 32768
unfolding parts_text
parts_text_most file t =
    let scene = (step_in show scene_step (packet file 0) []).told.graph.answer in
    let a = length-append (part_line 0 scene) (rest_text file scene (book_first show (packet file 0))) in
    let b = part_most 0 scene in
    let c = rest_most file t scene in
    omega arith

-- Whatever the file, its text fits into 32,768 bytes.
pub show_enough : (file : List ℕ) → length (show_text file) ≤ 32768
unfolding show_text
show_enough file =
    by_pick (λ l. length l ≤ 32768) (eqb (file_question file) 0) (parts_text file) _
    (λ t. parts_text_most file (question_met file (eqb-true _ _ t)))
    (λ _. let most = refused_most (file_question file) in omega arith)
