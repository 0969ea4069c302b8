-- The errors of refused calls, by their codes.
use Rattle.std.specs.Prelude.{ℕ}
use Rattle.kernel_model.specs.Rows.{no_such_file, not_an_image, bad_descriptor, no_child, bad_address, bad_argument, table_full, too_many_descriptors, file_too_large, no_reader, no_such_call}
use Rattle.calls.specs.declared.errno.Errno.{Errno}
use Rattle.calls.specs.declared.errno.Errno.TheVariants.{NoSuchFile, NotAnImage, BadDescriptor, NoChild, BadAddress, BadArgument, TableFull, TooManyDescriptors, FileTooLarge, NoReader, NoSuchCall}

-- the code of an error
abbrev pub code_of : Errno → ℕ
code_of NoSuchFile = no_such_file
code_of NotAnImage = not_an_image
code_of BadDescriptor = bad_descriptor
code_of NoChild = no_child
code_of BadAddress = bad_address
code_of BadArgument = bad_argument
code_of TableFull = table_full
code_of TooManyDescriptors = too_many_descriptors
code_of FileTooLarge = file_too_large
code_of NoReader = no_reader
code_of NoSuchCall = no_such_call
