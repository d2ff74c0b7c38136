-- What stays while one file is written.
use Rattle.std.proofs.Common.{◌≡◌, ℕ, List, [], ◌++◌, take, Option, Some, None, Result, Ok, Err, refl, sym, ap, subst, ◌∙◌, inl, inr}
use Rattle.std.specs.Prelude.{IfOk, OnErr}
use Rattle.std.specs.Option.{option_map}
use Rattle.std.specs.Io.KnownBytes.{Appends, Keeps, WriteAppends}
use Rattle.file_host.specs.declared.input_fault.InputFault.{InputFault}
use Rattle.file_host.specs.declared.input_fault.InputFault.TheVariants.{NotFound}
use Rattle.file_host.specs.World.{World, held_at, with_file}
use Rattle.file_disk.specs.Devices.{IsOpen, grown, bytes_in}
use Rattle.file_disk.specs.Frames.{Frame, IsEmptyAt, MayLose, known_bytes, known_at}
use Rattle.file_disk.proofs.WorldLaws.{holds, keeps, overwrites}

bytes_kept : (held : Option (List ℕ)) → Keeps held held
bytes_kept None = tt
bytes_kept (Some xs) = refl

grows_to : (held new : Result (List ℕ) InputFault) (bytes : List ℕ) → new ≡ Ok (bytes_in held ++ bytes)
    → Appends (known_bytes held) (known_bytes new) bytes
grows_to (Ok xs) (Ok ys) bytes e = cc
grows_to (Ok xs) (Err f) bytes e = cc
grows_to (Err f) new bytes e = tt

file_grown : (now : Option World) (output : Option (List ℕ)) (path bytes : List ℕ) → IsOpen now output (Some path)
    → Appends (known_at now path) (known_at (option_map (grown output bytes) now) path) bytes
file_grown None output path bytes is = tt
file_grown (Some w) output path bytes is =
    subst (λ (o : Option (List ℕ)). Appends (known_at (Some w) path) (known_at (Some (grown o bytes w)) path) bytes)
    (sym is)
    (grows_to (held_at w path) _ bytes (holds w path (Ok (bytes_in (held_at w path) ++ bytes))))

-- what a write to the open file does to its bytes
pub file_after : {E : Type 0} (now new : Option World) (output : Option (List ℕ)) (path bytes : List ℕ) (r : Result ℕ E)
    → IsOpen now output (Some path) → IfOk r (λ n. new ≡ option_map (grown output (take n bytes)) now)
    → OnErr r (new ≡ now) → WriteAppends (known_at now path) (known_at new path) r bytes
file_after now new output path bytes (Ok n) is h k =
    subst (λ (w : Option World). Appends (known_at now path) (known_at w path) (take n bytes)) (sym h)
    (file_grown now output path (take n bytes) is)
file_after now new output path bytes (Err e) is h k =
    subst (λ (w : Option World). Keeps (known_at now path) (known_at w path)) (sym k) (bytes_kept (known_at now path))

-- ---- at the end

text_of : (held : Result (List ℕ) InputFault) (text : List ℕ) → Appends (Some []) (known_bytes held) text → held ≡ Ok text
text_of (Ok xs) text a = ap (λ (t : List ℕ). Ok t) a
text_of (Err f) text a = absurd a

whole : (b n : World) (path text : List ℕ) → Some n ≡ Some (with_file path (held_at n path) b) → held_at b path ≡ Ok []
    → Appends (known_at (Some b) path) (known_at (Some n) path) text → Some n ≡ Some (with_file path (Ok text) b)
whole b n path text f empty a =
    let held : held_at n path ≡ Ok text =
    text_of (held_at n path) text
    (subst (λ (h : Result (List ℕ) InputFault). Appends (known_bytes h) (known_at (Some n) path) text) empty a) in
    f ∙ ap (λ (x : Result (List ℕ) InputFault). Some (with_file path x b)) held

-- all of the text is in the new file
pub whole_written : (before now : Option World) (path text : List ℕ) → Frame before now path → IsEmptyAt before path
    → Appends (known_at before path) (known_at now path) text
    → now ≡ option_map (with_file path (Ok text)) before
whole_written None None path text f empty a = refl
whole_written None (Some n) path text f empty a = cc
whole_written (Some b) None path text f empty a = cc
whole_written (Some b) (Some n) path text f empty a = whole b n path text f empty a

-- ---- all but one file is as it was

pub frame_self : (old : Option World) (path : List ℕ) → Frame old old path
frame_self None path = refl
frame_self (Some w) path = ap (λ (x : World). Some x) (sym (keeps w path (held_at w path) refl))

pub framed : (w : World) (path : List ℕ) (left : Result (List ℕ) InputFault) → Frame (Some w) (Some (with_file path left w)) path
framed w path left =
    ap (λ (x : Result (List ℕ) InputFault). Some (with_file path x w)) (sym (holds w path left))

pub frame_put : (old now : Option World) (path : List ℕ) (left : Result (List ℕ) InputFault)
    → now ≡ option_map (with_file path left) old → Frame old now path
frame_put None now path left e = e
frame_put (Some w) now path left e =
    subst (λ (x : Option World). Frame (Some w) x path) (sym e) (framed w path left)

frame_over : (b m n : World) (path : List ℕ) → Frame (Some b) (Some m) path → Frame (Some m) (Some n) path
    → Frame (Some b) (Some n) path
frame_over b m n path f g =
    g ∙ ap (option_map (with_file path (held_at n path))) f
    ∙ ap (λ (x : World). Some x) (overwrites b path (held_at m path) (held_at n path))

pub frame_then : (base mid now : Option World) (path : List ℕ) → Frame base mid path → Frame mid now path
    → Frame base now path
frame_then None None now path f g = g
frame_then None (Some m) now path f g = cc
frame_then (Some b) None now path f g = cc
frame_then (Some b) (Some m) None path f g = cc
frame_then (Some b) (Some m) (Some n) path f g = frame_over b m n path f g

pub frame_same : (base old now : Option World) (path : List ℕ) → Frame base old path → now ≡ old → Frame base now path
frame_same base old now path f e = subst (λ (x : Option World). Frame base x path) (sym e) f

pub frame_lost : (old now : Option World) (path : List ℕ) → MayLose old now path → Frame old now path
frame_lost old now path (inl same) = subst (λ (x : Option World). Frame old x path) (sym same) (frame_self old path)
frame_lost old now path (inr gone) = frame_put old now path (Err NotFound) gone
