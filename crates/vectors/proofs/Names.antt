-- A name in C, taken apart into the name at wide precision and the suffix.
use Rattle.std.proofs.Common.{◌≡◌, ◌≢◌, ℕ, List, [], ◌∷◌, ◌++◌, codes, refl, sym, ◌∙◌, ap, append-nil, arith}
use Rattle.std.proofs.lemmas.List.{append_cancel_right}
use Rattle.vectors.specs.Names.{stem_of, suffix_of}
use Rattle.vectors.specs.declared.function.Kind.{Kind}
use Rattle.vectors.specs.declared.function.Kind.TheVariants.{Asin, Acos, Atan, Atan2, Sqrt}
use Rattle.vectors.specs.declared.function.Precision.TheVariants.{Wide, Narrow}
use Rattle.vectors.specs.declared.function.Precision.{Precision}

-- the last byte of a text, and d of an empty one
abbrev last_byte : ℕ → List ℕ → ℕ
last_byte d [] = d
last_byte d (x ∷ xs) = last_byte x xs

last_byte-append : (d : ℕ) (front : List ℕ) (y : ℕ) → last_byte d (front ++ (y ∷ [])) ≡ y
last_byte-append d [] y = refl
last_byte-append d (x ∷ xs) y = last_byte-append x xs y

-- no name at wide precision has the suffix of narrow precision
stem_ends : (k : Kind) (front : List ℕ) → stem_of k ≢ front ++ codes "f"
stem_ends Asin front e = omega (arith, ap (last_byte 0) e ∙ last_byte-append 0 front 102)
stem_ends Acos front e = omega (arith, ap (last_byte 0) e ∙ last_byte-append 0 front 102)
stem_ends Atan front e = omega (arith, ap (last_byte 0) e ∙ last_byte-append 0 front 102)
stem_ends Atan2 front e = omega (arith, ap (last_byte 0) e ∙ last_byte-append 0 front 102)
stem_ends Sqrt front e = omega (arith, ap (last_byte 0) e ∙ last_byte-append 0 front 102)

-- no function has a name with the suffix where what is left names no kind
pub unknown_stem : (stem : List ℕ) → ((k : Kind) → stem_of k ≢ stem) → (k : Kind) (p : Precision)
    → stem_of k ++ suffix_of p ≢ stem ++ codes "f"
unknown_stem stem none k Wide e = stem_ends k stem (sym (append-nil (stem_of k)) ∙ e)
unknown_stem stem none k Narrow e = none k (append_cancel_right (stem_of k) stem (codes "f") e)
