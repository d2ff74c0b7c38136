mod AsBox
mod BankShorter
mod BoxShorter
mod PlayerShorter
mod PointsShorter
mod Tokens
