mod Parts
mod Spans
