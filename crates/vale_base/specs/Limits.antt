-- The limits of the language and of a run that contracts name. The constants of the code have the same values.
use Rattle.std.specs.Prelude.{ℕ}

-- the most bytes of a program's text
abbrev pub program_limit : ℕ
program_limit = 1048576

-- the most bytes of a program's input
abbrev pub input_limit : ℕ
input_limit = 16777216

-- the most bytes of a code file
abbrev pub code_file_limit : ℕ
code_file_limit = 268435456

-- the most levels of nesting that are open at a token
abbrev pub level_limit : ℕ
level_limit = 64

-- the most locals of a function, its parameters included
abbrev pub locals_limit : ℕ
locals_limit = 1024

-- the most bytes of a `str`
abbrev pub text_limit : ℕ
text_limit = 65536

-- the most elements of an array, and the most iterations of a parallel loop
abbrev pub width_limit : ℕ
width_limit = 1048576

-- the most functions, destructions, freezes and iterations that are under way at once
abbrev pub depth_limit : ℕ
depth_limit = 100000

-- the most innermost frames that a trap names one by one
abbrev pub report_frames : ℕ
report_frames = 64

-- the most workers of a run
abbrev pub workers_limit : ℕ
workers_limit = 64

-- how many workers a run has where the command line doesn't say
abbrev pub workers_default : ℕ
workers_default = 4

-- the most ticks of a run
abbrev pub ticks_limit : ℕ
ticks_limit = 4611686018427387904

-- how many ticks a run has where the command line doesn't say
abbrev pub ticks_default : ℕ
ticks_default = 1000000000

-- the most frames of a run
abbrev pub frames_limit : ℕ
frames_limit = 4096

-- how many frames a run has where the command line doesn't say
abbrev pub frames_default : ℕ
frames_default = 4096

-- the first generation of every slot where the command line doesn't say
abbrev pub first_generation_default : ℕ
first_generation_default = 1

-- the slots of a page
abbrev pub slots : ℕ
slots = 64
