-- The exit status of each end, and its text.
use Rattle.std.specs.Prelude.{ℕ, List, [], ◌++◌, codes}
use Rattle.std.specs.Fmt.{decimal}
use Rattle.cv_dtext.specs.declared.options.TextError.{TextError}
use Rattle.cv_dtext.specs.declared.options.TextError.TheVariants as text
use Rattle.cv_grid.specs.declared.error.GridError.{GridError}
use Rattle.cv_grid.specs.declared.error.GridError.TheVariants as grid
use Rattle.cv_grid.specs.declared.error.GridWord.{GridWord}
use Rattle.cv_grid.specs.declared.error.GridWord.TheVariants.{Ncols, Nrows, Xll, Yll, Cellsize, Dx, Dy}
use Rattle.cv_open.specs.declared.ends.DataError.{DataError}
use Rattle.cv_open.specs.declared.ends.DataError.TheVariants.{Text, Grid, TooLong}
use Rattle.cv_open.specs.declared.ends.End.{End}
use Rattle.cv_open.specs.declared.ends.End.TheVariants.{Done, NoMemory, Usage, BadProject, BadData, Missing}
use Rattle.cv_open.specs.declared.ends.End.TheVariants.{BadScript, ReadFault, WriteFault}

-- the exit status of a program that ends so
abbrev pub status_of : End → ℕ
status_of Done = 0
status_of NoMemory = 1
status_of Usage = 2
status_of (BadProject error) = 3
status_of (BadData place error) = 4
status_of (BadScript line) = 5
status_of (ReadFault which) = 6
status_of (WriteFault which) = 7
status_of (Missing which) = 8

-- the text of each end
abbrev pub text_of_end : End → List ℕ
text_of_end Done = []
text_of_end NoMemory = codes "out of memory"
text_of_end Usage = codes "usage"
text_of_end (BadProject error) = codes "bad project"
text_of_end (BadData place error) = codes "bad data in layer " ++ decimal place
text_of_end (BadScript line) = codes "bad script in line " ++ decimal line
text_of_end (ReadFault which) = codes "read fault"
text_of_end (WriteFault which) = codes "write fault"
text_of_end (Missing which) = codes "file missing"

-- why a delimited text was refused, in words
abbrev pub text_of_error : TextError → List ℕ
text_of_error text.NoHeader = codes "no header"
text_of_error text.NoGeometryColumn = codes "no column of geometries"
text_of_error (text.Uneven number) = codes "another number of fields in record " ++ decimal number
text_of_error (text.NotUtf8 number) = codes "no UTF-8 in record " ++ decimal number
text_of_error text.TooMany = codes "too many features, vertices or values"
text_of_error text.NoMemory = codes "out of memory"

-- the word of a header that a grid lacks
abbrev pub word_of : GridWord → List ℕ
word_of Ncols = codes "ncols"
word_of Nrows = codes "nrows"
word_of Xll = codes "xllcorner"
word_of Yll = codes "yllcorner"
word_of Cellsize = codes "cellsize"
word_of Dx = codes "dx"
word_of Dy = codes "dy"

-- why a grid was refused, in words
abbrev pub text_of_grid : GridError → List ℕ
text_of_grid (grid.MissingWord word) = codes "no " ++ (word_of word ++ codes " in the header")
text_of_grid (grid.BadWord line) = codes "no such word, or a second one, in line " ++ decimal line
text_of_grid (grid.BadNumber at) = codes "no number that fits at byte " ++ decimal at
text_of_grid (grid.TooFew found) = codes "only " ++ (decimal found ++ codes " values")
text_of_grid grid.TooMany = codes "more values than cells"
text_of_grid grid.TooLarge = codes "too many cells, or an edge out of range"
text_of_grid grid.NoMemory = codes "out of memory"

-- why the bytes of a layer were refused, in words
abbrev pub text_of_data : DataError → List ℕ
text_of_data TooLong = codes "too many bytes"
text_of_data (Text error) = text_of_error error
text_of_data (Grid error) = text_of_grid error
