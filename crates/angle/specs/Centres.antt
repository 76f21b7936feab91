-- Where a centre stands in the arctangent's tables.
use Rattle.std.specs.Prelude.{ℕ}
use Rattle.angle.specs.declared.generic.atan.Centre.{Centre}
use Rattle.angle.specs.declared.generic.atan.Centre.TheVariants.{Half, One, ThreeHalves, Infinity}

abbrev pub place : Centre → ℕ
place Half = 0
place One = 1
place ThreeHalves = 2
place Infinity = 3
