mod AsBank
mod AsPlayer
mod ScriptLaws
mod FloatLaws
mod SideLaws
