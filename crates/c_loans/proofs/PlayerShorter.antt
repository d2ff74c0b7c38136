-- A voice and a player, at a lifetime within their own.
use mathlib.Core.Path.{refl}
use seplogic.Ra.Ura.{Ura}
use base.Fml.{Incl}
use types.Logic.{Logic}
use denote.RattleType.{RattleType}
use denote.Ref.{NamedLft}
use denote.Sub.{Sub, sub_refl, sub-struct, sub-fields}
use denote.Model.Marks.{view-sub}
use denote.Struct.Declared as struct
use denote.Struct.Struct.{Struct}
use Rattle.std.below.std_alloc.specs.formers.vec.Vec.{the_shorter}
use Rattle.std.specs.contracts.alloc.Global as Global
use Rattle.std.specs.contracts.impls.GlobalAllocator.TheImpl.{ghosts}
use Rattle.voices.specs.contracts.slices.Slice as Slice
use Rattle.voices.specs.contracts.voice_state.VoiceState as State
use Rattle.voices.specs.contracts.voice.Voice as Voice
use Rattle.voices.specs.contracts.voice.Voice.TheInside as VoiceInside
use Rattle.mixer.specs.contracts.playing.PlayingVoice as Playing
use Rattle.mixer.specs.contracts.player.Player as Player
use Rattle.mixer.specs.contracts.player.Player.TheInside as PlayerInside
use Rattle.c_loans.proofs.PointsShorter.{bytes, points}

module _ {M : Type 1} {𝓤 : Ura M} (𝓛 : Logic 𝓤) (k k' : NamedLft) (inc : Incl k'.lft k.lft) where
  slice : Sub 𝓛 (Struct (struct.shape (Slice.the_type k))) (Struct (struct.shape (Slice.the_type k'))) (λ x. x)
  slice = sub-fields 𝓛 (struct.shape (Slice.the_type k)) (struct.shape (Slice.the_type k')) (((λ x. x), bytes 𝓛 k k' inc), (((λ x. x), sub_refl 𝓛 _), tt))

  state : Sub 𝓛 (Struct (struct.shape (State.the_type k))) (Struct (struct.shape (State.the_type k'))) (λ x. x)
  state = sub-fields 𝓛 (struct.shape (State.the_type k)) (struct.shape (State.the_type k'))
      (((λ x. x), sub_refl 𝓛 _), (((λ x. x), sub_refl 𝓛 _), (((λ x. x), sub_refl 𝓛 _), (((λ x. x), sub_refl 𝓛 _), (((λ x. x), sub_refl 𝓛 _), (((λ x. x), slice), tt))))))

  pub voice : Sub 𝓛 (Voice.the_row k) (Voice.the_row k') (λ x. x)
  voice = view-sub 𝓛 (struct.row (VoiceInside.the_type k)) (struct.row (VoiceInside.the_type k')) (Voice.the_row k).Denot (Voice.the_row k).coded (Voice.the_row k').coded (λ x. x)
      (Voice.the_view k) (Voice.the_invariant k) (Voice.the_view k') (Voice.the_invariant k')
      (sub-struct 𝓛 (VoiceInside.the_type k) (VoiceInside.the_type k')
      (((λ x. x), points 𝓛 k k' inc), (((λ x. x), sub_refl 𝓛 _), (((λ x. x), sub_refl 𝓛 _), (((λ x. x), state), tt)))) (λ x. x) (λ d. refl)) (λ a. refl) (λ a h. h) (λ d. refl)

  playing : Sub 𝓛 (Playing.the_row k) (Playing.the_row k') (λ x. x)
  playing = sub-struct 𝓛 (Playing.the_type k) (Playing.the_type k')
      (((λ x. x), voice), (((λ x. x), sub_refl 𝓛 _), (((λ x. x), sub_refl 𝓛 _), (((λ x. x), sub_refl 𝓛 _), tt)))) (λ x. x) (λ d. refl)

  abbrev S : RattleType
  S = Playing.the_row k'

  pub player : Sub 𝓛 (Player.the_row k) (Player.the_row k') (λ x. x)
  player = view-sub 𝓛 (struct.row (PlayerInside.the_type k)) (struct.row (PlayerInside.the_type k')) (Player.the_row k).Denot (Player.the_row k).coded (Player.the_row k').coded (λ x. x)
      (Player.the_view k) (Player.the_invariant k) (Player.the_view k') (Player.the_invariant k')
      (sub-struct 𝓛 (PlayerInside.the_type k) (PlayerInside.the_type k') (
        ((λ x. x), sub_refl 𝓛 _),
        (
          ((λ x. x), sub_refl 𝓛 _),
          (((λ x. x), the_shorter 𝓛 (Playing.the_row k) S.mir S.written S.reaches S.lives S.own_val S.exit S.coded S.shr_at playing Global.the_row ghosts), tt),
        ),
      ) (λ x. x) (λ d. refl)) (λ a. refl) (λ a h. h) (λ d. refl)
